-- Changes of a cell's value, or why there is none. The order of the checks is this project's choice.
use Rattle.std.specs.Prelude.{ℕ, ◌+◌, ◌-◌, ◌==◌, nat_lt, ℤ, Bool, not, if◌then◌else◌, List, Option, Some, None, Result}
use Rattle.std.specs.Prelude.{Ok, Err}
use Rattle.oa_model.specs.promise.Limits.{max_cells, max_cell_locks}
use Rattle.oa_model.specs.declared.bound.Bound.{Bound}
use Rattle.oa_array.specs.promise.Arrays.{ArrayValue, redimensioned, with_cell, with_first, with_locks}
use Rattle.oa_array.specs.promise.Boxes.{box_size}
use Rattle.oa_array.specs.promise.Within.{in_bounds}
use Rattle.oa_array.specs.declared.fault.ArrayFault.TheVariants as arrays
use Rattle.oa_variant.specs.promise.Scalars.{fits_type, zero_of}
use Rattle.oa_variant.specs.declared.scalar.Scalar.{Scalar}
use Rattle.oa_variant.specs.declared.variant.Variant.{Variant}
use Rattle.oa_variant.specs.declared.variant.Variant.TheVariants.{One, Array as AnArray}
use Rattle.oa_table.specs.declared.fault.TableFault.{TableFault}
use Rattle.oa_table.specs.declared.fault.TableFault.TheVariants.{NotArray, Array}

-- how many locks the array in a cell has; 0 if there is none
abbrev pub locks_of : Variant → ℕ
locks_of (One s) = 0
locks_of (AnArray a) = a.locks

abbrev pub locks_in : Option Variant → ℕ
locks_in None = 0
locks_in (Some value) = locks_of value

abbrev pub is_locked : Variant → Bool
is_locked value = not (locks_of value == 0)

-- an element within the bounds is set: it must be of the array's type
abbrev pub with_typed_element : List ℤ → Scalar → ArrayValue Scalar → Result Variant TableFault
with_typed_element index element a =
    if fits_type element a.elem then Ok (AnArray (with_cell a index element)) else Err (Array arrays.TypeMismatch)

-- an element is set: first the index list must lie in the bounds, then the element must be of the array's type
abbrev pub with_element_put : List ℤ → Scalar → Variant → Result Variant TableFault
with_element_put index element (One s) = Err NotArray
with_element_put index element (AnArray a) =
    if in_bounds a.bounds index then with_typed_element index element a else Err (Array arrays.BadIndex)

-- the first bound is replaced: first the array must not be locked, then there must not be too many elements
abbrev pub redimensioned_value : Bound → Variant → Result Variant TableFault
redimensioned_value bound (One s) = Err NotArray
redimensioned_value bound (AnArray a) =
    if nat_lt 0 a.locks then Err (Array arrays.IsLocked)
    else if nat_lt max_cells (box_size (with_first bound a.bounds)) then Err (Array arrays.InvalidArgument)
    else Ok (AnArray (redimensioned (zero_of a.elem) bound a))

-- one more lock
abbrev pub locked_value : Variant → Result Variant TableFault
locked_value (One s) = Err NotArray
locked_value (AnArray a) = if a.locks == max_cell_locks then Err (Array arrays.Unexpected)
    else Ok (AnArray (with_locks a (a.locks + 1)))

-- one lock fewer
abbrev pub released_value : Variant → Result Variant TableFault
released_value (One s) = Err NotArray
released_value (AnArray a) = if a.locks == 0 then Err (Array arrays.Unexpected)
    else Ok (AnArray (with_locks a (a.locks - 1)))
