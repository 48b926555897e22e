use Rattle.std.proofs.Common.{◌≡◌, ◌<◌, slice_get, Some}
use Rattle.oa_variant.specs.Scalars.{IsScalar}
use Rattle.oa_image.proofs.laws.are_scalars.Given as goal

-- the scalars before this one
abbrev pub invariant-scalars : goal.invariant-scalars
invariant-scalars l = (k : _) (s : _) → k < l.scalar-index → slice_get l.fn.scalars k ≡ Some s → IsScalar s
