-- Bounds, and the index lists within them (MS-OAUT section 2.2.30).
use Rattle.std.specs.Prelude.{ℕ, List, [], ◌∷◌, map, flat_map, length, count_by, ℤ, pos, ◌+ℤ◌, Bool}
use Rattle.std.specs.List.{range_with_len}
use Rattle.std.specs.Ordering.{int_cmp, is_lt}
use Rattle.std.specs.Cmp.Lexicographic.{slice_cmp}
use Rattle.oa_model.specs.declared.bound.Bound.{Bound}

-- The indices of one dimension, from the lowest on.
abbrev pub indices : Bound → List ℤ
indices bound = map (λ k. bound.lower +ℤ pos k) (range_with_len 0 bound.count)

-- All index lists within the bounds (the box), in lexicographic order.
unfoldable pub index_lists : List Bound → List (List ℤ)
index_lists [] = [] ∷ []
index_lists (bound ∷ rest) = flat_map (λ i. map (λ tail. i ∷ tail) (index_lists rest)) (indices bound)

-- The number of index lists within the bounds.
unfoldable pub box_size : List Bound → ℕ
box_size bounds = length (index_lists bounds)

-- The index list x comes before y in lexicographic order.
abbrev pub comes_before : List ℤ → List ℤ → Bool
comes_before x y = is_lt (slice_cmp int_cmp x y)

-- The position of an index list: the number of index lists within the bounds that come before it.
unfoldable pub position_of : List Bound → List ℤ → ℕ
position_of bounds index = count_by (λ member. comes_before member index) (index_lists bounds)
