use Rattle.oa_gateway.proofs.Turned.{first_is_taken, other_is_taken}
use Rattle.oa_gateway.proofs.laws.a_turn_goes_on.Goals as goal

pub returns : goal.returns
returns c = record { other = other_is_taken; first = first_is_taken }
