-- A safe array as a map from the index lists within its bounds to elements (MS-OAUT section 2.2.30): the element of an
-- index list is at its position in the list of elements.
use Rattle.std.specs.Prelude.{◌≡◌, ℕ, ◌<◌, ◌≤◌, List, ◌∷◌, map, drop, length, slice_get, slice_set, All, IsSome, Option}
use Rattle.std.specs.Prelude.{ℤ}
use Rattle.std.specs.List.{range_with_len}
use Rattle.std.specs.Option.{unwrap_or}
use Rattle.oa_model.specs.promise.Limits.{max_dimensions, max_cells}
use Rattle.oa_model.specs.declared.bound.Bound.{Bound}
use Rattle.oa_model.specs.declared.var_type.VarType.{VarType}
use Rattle.oa_model.specs.promise.Types.{sf_type_of}
use Rattle.oa_array.specs.promise.Boxes.{box_size, position_of}

-- The type of the elements, the bounds in the listed order, the elements and the number of locks.
pub record ArrayValue (X : Type 0) : Type 0 where
  pub elem : VarType
  pub bounds : List Bound
  pub cells : List X
  pub locks : ℕ

-- There are arrays of this type and these bounds: the type has an sfType, there is at least one bound, and the numbers
-- of bounds and elements are within the limits.
pub record IsArrayShape (elem : VarType) (bounds : List Bound) : Type 0 where
  pub typed : IsSome (sf_type_of elem)
  pub some : 0 < length bounds
  pub few : length bounds ≤ max_dimensions
  pub small : box_size bounds ≤ max_cells

-- The bounds with another first one, which is that of the slowest dimension.
abbrev pub with_first : Bound → List Bound → List Bound
with_first bound bounds = bound ∷ drop 1 bounds

module _ {X : Type 0} where
  -- The invariant of arrays: one element for each index list within the bounds, each of the array's type.
  pub record IsArray (fits : X → VarType → Type 0) (a : ArrayValue X) : Type 0 where
    pub shape : IsArrayShape a.elem a.bounds
    pub whole : length a.cells ≡ box_size a.bounds
    pub typed : All (λ cell. fits cell a.elem) a.cells

  -- The element at an index list within the bounds.
  abbrev pub array_element : ArrayValue X → List ℤ → Option X
  array_element a index = slice_get a.cells (position_of a.bounds index)

  -- The same array with another element at the index list.
  abbrev pub with_cell : ArrayValue X → List ℤ → X → ArrayValue X
  with_cell a index cell = record a { cells = slice_set a.cells (position_of a.bounds index) cell }

  abbrev pub with_locks : ArrayValue X → ℕ → ArrayValue X
  with_locks a locks = record a { locks = locks }

  -- A list of n elements: at each position the old one, or the zero value if there was none.
  unfoldable pub kept_by_position : X → ℕ → List X → List X
  kept_by_position zero n cells = map (λ p. unwrap_or (slice_get cells p) zero) (range_with_len 0 n)

  -- The array with another first listed bound. The index list at position p of the new bounds has the old element at
  -- position p, or the zero value if there was none.
  abbrev pub redimensioned : X → Bound → ArrayValue X → ArrayValue X
  redimensioned zero bound a = record a {
    bounds = with_first bound a.bounds;
    cells = kept_by_position zero (box_size (with_first bound a.bounds)) a.cells;
  }
