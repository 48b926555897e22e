use Rattle.oa_turn.proofs.Own.{step_own, turn_own}
use Rattle.oa_turn.proofs.laws.own_codes.Goals as goal

pub returns : goal.returns
returns c = record { step = step_own; turn = turn_own }
