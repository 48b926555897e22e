use Rattle.std.proofs.Common.{◌≡◌, ◌<◌, slice_get, Some}
use Rattle.oa_variant.specs.Variants.{IsBound}
use Rattle.oa_variant.proofs.laws.are_bounds.Given as goal

-- the bounds before this one are in range
abbrev pub invariant-bounds : goal.invariant-bounds
invariant-bounds l = (k : _) (b : _) → k < l.bound-index → slice_get l.fn.bounds k ≡ Some b → IsBound b
