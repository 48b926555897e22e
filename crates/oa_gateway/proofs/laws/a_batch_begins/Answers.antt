use Rattle.oa_gateway.proofs.Begun.{begins_for_all, begins_for_one, begins_for_ends}
use Rattle.oa_gateway.proofs.laws.a_batch_begins.Goals as goal

pub returns : goal.returns
returns c = record { waits = begins_for_all; alone = begins_for_one; ends = begins_for_ends }
