-- Definitions for contracts and proofs, beside promise/Elements.
use Rattle.std.specs.Prelude.{◌==◌, if◌then◌else◌, Result, Ok, Err}
use Rattle.oa_array.specs.declared.fault.ArrayFault.{ArrayFault}
use Rattle.oa_array.specs.declared.fault.ArrayFault.TheVariants as arrays
use Rattle.oa_variant.specs.declared.variant.Variant.{Variant}
use Rattle.oa_table.specs.declared.fault.TableFault.{TableFault}
use Rattle.oa_table.specs.declared.fault.TableFault.TheVariants.{Array, Memory}
use Rattle.oa_table.specs.promise.Elements.{locks_of}

-- a value replaces another one, unless the array of that one is locked
abbrev pub replaced_value : Variant → Variant → Result Variant TableFault
replaced_value value old = if locks_of old == 0 then Ok value else Err (Array arrays.IsLocked)

-- the refusal of an array, as that of a change of the table
abbrev pub of_array : ArrayFault → TableFault
of_array arrays.Memory = Memory
of_array fault = Array fault
