-- A test whether an index list is within bounds (MS-OAUT section 2.2.30).
use Rattle.std.specs.Prelude.{ℤ, pos, ◌+ℤ◌, int_le, int_lt, ◌&&◌, Bool, true, false, List, [], ◌∷◌}
use Rattle.oa_model.specs.declared.bound.Bound.{Bound}

-- lower <= i < lower + count, with exact sums.
abbrev pub within : Bound → ℤ → Bool
within bound i = int_le bound.lower i && int_lt i (bound.lower +ℤ pos bound.count)

-- There is one index for each bound, and each is within its own.
unfoldable pub in_bounds : List Bound → List ℤ → Bool
in_bounds [] [] = true
in_bounds [] (i ∷ is) = false
in_bounds (b ∷ bs) [] = false
in_bounds (b ∷ bs) (i ∷ is) = within b i && in_bounds bs is
