use Rattle.oa_gateway.proofs.Turned.{is_batch_bounded}
use Rattle.oa_gateway.proofs.laws.a_batch_is_bounded.Goals as goal

pub returns : goal.returns
returns c = is_batch_bounded
