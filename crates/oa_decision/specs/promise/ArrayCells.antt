-- Requests on the array in a cell. They are refused in one order, whatever they ask (this project's choice), each
-- time with the code of the fault: 1. the cell has no array; 2. the index list does not lie in the bounds (GETELEM,
-- PUTELEM); 3. the new value cannot be coerced to an element (PUTELEM); 4. the array is locked (REDIM; likewise a put
-- over it and the release of its object); 5. it would have too many cells (REDIM); 6. the cell was never put, or
-- there is no lock to add or remove (LOCK, UNLOCK). A cell that was never put has the zero of its declared type. The
-- table itself refuses 4 to 6 if it contains the array.
use Rattle.std.specs.Prelude.{ℕ, ℤ, not, List, Option, Some, None, Result, Ok, Err}
use Rattle.oa_model.specs.declared.var_type.VarType.{VarType}
use Rattle.oa_model.specs.declared.var_type.ValueType.{ValueType}
use Rattle.oa_model.specs.declared.var_type.ValueType.TheVariants as kinds
use Rattle.oa_array.specs.promise.Arrays.{ArrayValue, array_element}
use Rattle.oa_array.specs.promise.Faults.{array_code}
use Rattle.oa_array.specs.promise.Within.{in_bounds}
use Rattle.oa_array.specs.declared.fault.ArrayFault.TheVariants as arrays
use Rattle.oa_coerce.specs.promise.Answers.{coerced_scalar}
use Rattle.oa_coerce.specs.promise.Refusals.{coercion_code}
use Rattle.oa_coerce.specs.declared.fault.CoerceFault.{CoerceFault}
use Rattle.oa_coerce.specs.declared.fault.CoerceFault.TheVariants as coercions
use Rattle.oa_variant.specs.declared.scalar.Scalar.{Scalar}
use Rattle.oa_variant.specs.declared.variant.Variant.{Variant}
use Rattle.oa_variant.specs.declared.variant.Variant.TheVariants.{One, Array}
use Rattle.oa_table.specs.declared.fault.TableFault.{TableFault}
use Rattle.oa_table.specs.declared.fault.TableFault.TheVariants.{NotArray, Array as ArrayRefuses}
use Rattle.oa_table.specs.declared.name.CellName.{CellName}
use Rattle.oa_table.specs.promise.Faults.{table_code}
use Rattle.oa_table.specs.promise.Tables.{cell_in, object_at}
use Rattle.oa_decision.specs.declared.refusal.Refusal.{Refusal}
use Rattle.oa_decision.specs.declared.decider.cell.BoundCell.{BoundCell}
use Rattle.oa_decision.specs.promise.Invoke.{or_zero}
use Rattle.oa_decision.specs.promise.Refusals.{◌>>=◌, known, refused, unless}
use Rattle.oa_decision.specs.promise.States.{State}

-- the value that was put into a cell
abbrev pub put_in : State → CellName → Option Variant
put_in state name = cell_in name.place (object_at name.object state.table)

-- the value of a cell
abbrev pub value_in : State → CellName → ValueType → Variant
value_in state name declared = or_zero declared (put_in state name)

-- the refusal of the table, as that of a request
abbrev pub as_refused : {A : Type 0} → Result A TableFault → Result A Refusal
as_refused (Ok x) = Ok x
as_refused (Err fault) = refused (table_code fault)

-- the array in a value
abbrev pub array_in_value : Variant → Result (ArrayValue Scalar) Refusal
array_in_value (One s) = refused (table_code NotArray)
array_in_value (Array a) = Ok a

-- whether the index list lies in its bounds
abbrev pub if_in_bounds : List ℤ → ArrayValue Scalar → Result (Unit {0}) Refusal
if_in_bounds index array = unless (array_code arrays.BadIndex) (not (in_bounds array.bounds index))

-- the element there
abbrev pub array_element_at : List ℤ → ArrayValue Scalar → Result Scalar Refusal
array_element_at index array =
    if_in_bounds index array >>= λ _. known (array_code arrays.BadIndex) (array_element array index)

abbrev pub element_of : List ℤ → Variant → Result Scalar Refusal
element_of index value = array_in_value value >>= array_element_at index

-- the type of the element there
abbrev pub element_type_at : List ℤ → ArrayValue Scalar → Result VarType Refusal
element_type_at index array = if_in_bounds index array >>= λ _. Ok array.elem

abbrev pub element_type_of : List ℤ → Variant → Result VarType Refusal
element_type_of index value = array_in_value value >>= element_type_at index

-- a value coerced to an element of a type
abbrev pub told_as_element : Result Scalar CoerceFault → Result Scalar Refusal
told_as_element (Ok element) = Ok element
told_as_element (Err fault) = refused (coercion_code fault)

-- an array is an element of no type
abbrev pub as_element : VarType → Variant → Result Scalar Refusal
as_element elem (One s) = told_as_element (coerced_scalar s elem)
as_element elem (Array a) = refused (coercion_code coercions.TypeMismatch)

-- how many locks the array in a cell has; that of a cell that was never put cannot be locked
abbrev pub array_locks : ValueType → Option Variant → Result ℕ Refusal
array_locks declared (Some value) = array_in_value value >>= λ array. Ok array.locks
array_locks (kinds.One t) None = refused (table_code NotArray)
array_locks (kinds.Array t) None = refused (table_code (ArrayRefuses arrays.Unexpected))

abbrev pub locks_found : State → BoundCell → Result ℕ Refusal
locks_found state cell = array_locks cell.declared (put_in state cell.name)

-- the element of a cell, whose value is the zero of its type if it was never put
abbrev pub element_in : State → List ℤ → BoundCell → Result Scalar Refusal
element_in state index cell = element_of index (value_in state cell.name cell.declared)

abbrev pub element_type_in : State → List ℤ → BoundCell → Result VarType Refusal
element_type_in state index cell = element_type_of index (value_in state cell.name cell.declared)
