-- Definitions for contracts and proofs, beside promise/Boxes.
use Rattle.std.specs.Prelude.{List, ℤ, pos, ◌+ℤ◌, ◌≤ℤ◌, ◌<ℤ◌}
use Rattle.std.specs.List.{AllZip}
use Rattle.oa_model.specs.declared.bound.Bound.{Bound}

-- lower <= i < lower + count, with exact sums.
abbrev pub IsWithin : Bound → ℤ → Type 0
IsWithin bound i = (bound.lower ≤ℤ i) × (i <ℤ (bound.lower +ℤ pos bound.count))

-- The index list is within the bounds: it has one index for each bound, and each index is within its own.
abbrev pub InBounds : List Bound → List ℤ → Type 0
InBounds bounds index = AllZip IsWithin bounds index
