use Rattle.oa_server.proofs.OneState.{run_rest}
use Rattle.oa_server.proofs.laws.rest_of_a_run.Goals as goal

pub returns : goal.returns
returns c = run_rest c.one_request.ensures c.one_tree.ensures
