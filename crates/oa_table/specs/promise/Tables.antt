-- The table as a value: the next number, and the objects in the order of their numbers, each with its cells in the
-- order of their places. (This project's choice.)
use Rattle.std.specs.Prelude.{ℕ, List, map, Option, Some, None}
use Rattle.std.specs.Map.{lookup}
use Rattle.std.specs.BTreeMap.{is_at}
use Rattle.std.specs.Ordering.{nat_cmp}
use Rattle.oa_variant.specs.declared.variant.Variant.{Variant}
use Rattle.oa_variant.specs.promise.Variants.{unlocked}
use Rattle.oa_table.specs.promise.Places.{PlaceValue, place_cmp}

-- a coclass (its GUID), and the cells that were put, each at its place
pub record ObjectValue : Type 0 where
  pub class : List ℕ
  pub cells : List (PlaceValue × Variant)

-- next is the number of the next object; it is above the greatest number if the numbers are used up
pub record TableValue : Type 0 where
  pub next : ℕ
  pub objects : List (ℕ × ObjectValue)

-- the value that was put at a place
abbrev pub cell_at : PlaceValue → List (PlaceValue × Variant) → Option Variant
cell_at place cells = lookup (is_at (place_cmp place)) cells

abbrev pub object_at : ℕ → TableValue → Option ObjectValue
object_at number table = lookup (is_at (nat_cmp number)) table.objects

abbrev pub class_in : Option ObjectValue → Option (List ℕ)
class_in None = None
class_in (Some object) = Some object.class

abbrev pub cell_in : PlaceValue → Option ObjectValue → Option Variant
cell_in place None = None
cell_in place (Some object) = cell_at place object.cells

-- The part of a table that an image contains: all but the locks, which last for a session.
abbrev pub unlocked_cell : PlaceValue × Variant → PlaceValue × Variant
unlocked_cell cell = (cell.0, unlocked cell.1)

abbrev pub unlocked_object : ObjectValue → ObjectValue
unlocked_object object = record object { cells = map unlocked_cell object.cells }

abbrev pub unlocked_entry : ℕ × ObjectValue → ℕ × ObjectValue
unlocked_entry entry = (entry.0, unlocked_object entry.1)

abbrev pub unlocked_table : TableValue → TableValue
unlocked_table table = record table { objects = map unlocked_entry table.objects }
