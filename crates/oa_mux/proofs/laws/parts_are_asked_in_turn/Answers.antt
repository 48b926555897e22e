use Rattle.oa_mux.proofs.Taking.{asks_then}
use Rattle.oa_mux.proofs.laws.parts_are_asked_in_turn.Goals as goal

pub returns : goal.returns
returns c = asks_then
