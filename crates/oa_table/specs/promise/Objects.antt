-- Changes of the cells of an object, or why there is none. (This project's choice.)
use Rattle.std.specs.Prelude.{ℕ, ◌==◌, Bool, if◌then◌else◌, List, Option, Some, None, Result, Ok, Err}
use Rattle.std.specs.List.{list_any}
use Rattle.std.specs.Map.{set_value, values_of}
use Rattle.std.specs.BTreeMap.{insert_entry, is_at}
use Rattle.oa_array.specs.declared.fault.ArrayFault.TheVariants as arrays
use Rattle.oa_variant.specs.declared.variant.Variant.{Variant}
use Rattle.oa_table.specs.declared.fault.TableFault.{TableFault}
use Rattle.oa_table.specs.declared.fault.TableFault.TheVariants.{NotArray, Array}
use Rattle.oa_table.specs.promise.Elements.{is_locked, locks_in}
use Rattle.oa_table.specs.promise.Outcomes.{mapped}
use Rattle.oa_table.specs.promise.Places.{PlaceValue, place_cmp}
use Rattle.oa_table.specs.promise.Tables.{ObjectValue, cell_at}

-- whether the array in some cell is locked
abbrev pub any_locked : List (PlaceValue × Variant) → Bool
any_locked cells = list_any is_locked (values_of cells)

abbrev pub locks_of_cell : PlaceValue → ObjectValue → ℕ
locks_of_cell place object = locks_in (cell_at place object.cells)

-- a cell is set, unless its array is locked
abbrev pub with_put : PlaceValue → Variant → ObjectValue → Result ObjectValue TableFault
with_put place value object =
    if locks_of_cell place object == 0
    then Ok (record object { cells = insert_entry place_cmp object.cells place value })
    else Err (Array arrays.IsLocked)

abbrev pub with_value : PlaceValue → ObjectValue → Variant → ObjectValue
with_value place object value = record object { cells = set_value (is_at (place_cmp place)) object.cells value }

-- the value of a cell that was put is changed
abbrev pub changed_if_put : PlaceValue → (Variant → Result Variant TableFault) → ObjectValue
    → Option Variant → Result ObjectValue TableFault
changed_if_put place change object None = Err NotArray
changed_if_put place change object (Some value) = mapped (with_value place object) (change value)

abbrev pub with_change : PlaceValue → (Variant → Result Variant TableFault) → ObjectValue
    → Result ObjectValue TableFault
with_change place change object = changed_if_put place change object (cell_at place object.cells)
