use Rattle.oa_gateway.proofs.Turned.{is_bounded}
use Rattle.oa_gateway.proofs.laws.a_turn_is_bounded.Goals as goal

pub returns : goal.returns
returns c = is_bounded
