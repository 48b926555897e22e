use Rattle.oa_turn.proofs.OneState.{one_run, one_turn}
use Rattle.oa_turn.proofs.laws.one_state.Goals as goal

pub returns : goal.returns
returns c = record { turn = one_turn c.one_request.ensures c.one_tree.ensures; run = one_run c.one_request.ensures c.one_tree.ensures }
