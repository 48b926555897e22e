use Rattle.oa_variant.proofs.Exact.{exact_scalars}
use Rattle.oa_variant.proofs.laws.equal_is_same.Goals as goal

pub returns : goal.returns
returns c = exact_scalars
