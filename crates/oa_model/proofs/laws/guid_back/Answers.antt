use Rattle.uuid.proofs.RoundTrips.{swap_twice}
use Rattle.oa_model.proofs.laws.guid_back.Goals as goal

pub returns : goal.returns
returns c = swap_twice
