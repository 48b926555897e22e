use Rattle.oa_coerce.proofs.Properties.{integers_stay}
use Rattle.oa_coerce.proofs.laws.integers_stay.Goals as goal

pub returns : goal.returns
returns c = integers_stay
