use Rattle.oa_gateway.proofs.Own.{in_turn}
use Rattle.oa_gateway.proofs.laws.bytes_are_read_in_turn.Goals as goal

pub returns : goal.returns
returns c = in_turn
