use Rattle.std.proofs.Common.{◌≡◌, ◌<◌, slice_get, Some}
use Rattle.oa_variant.specs.Scalars.{IsScalar}
use Rattle.oa_variant.proofs.laws.are_scalars.Given as goal

-- the cells before this one are scalars
abbrev pub invariant-cells : goal.invariant-cells
invariant-cells l = (k : _) (s : _) → k < l.cell-index → slice_get l.fn.cells k ≡ Some s → IsScalar s
