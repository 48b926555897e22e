-- Definitions for contracts and proofs, beside promise/Arrays.
use Rattle.std.specs.Prelude.{◌≡◌, ◌≤◌, length, None, IsSome, Result, Ok, Err}
use Rattle.oa_ndr.specs.promise.Reading.{Cursor}
use Rattle.oa_model.specs.declared.var_type.VarType.{VarType}
use Rattle.oa_model.specs.promise.Types.{sf_type_of}
use Rattle.oa_array.specs.promise.Arrays.{ArrayValue}
use Rattle.oa_variant.specs.declared.scalar.Scalar.{Scalar}
use Rattle.oa_wire_array.specs.declared.fault.WireFault.{WireFault}
use Rattle.oa_wire_array.specs.declared.fault.WireFault.TheVariants.{BadStub, BadVarType, Memory}
use Rattle.oa_wire_text.specs.Reading.{ReadSpan}
use Rattle.oa_wire_array.specs.promise.Arrays.{array}

-- The result of a call on a reader is right: the array of the type that the bytes encode that it has moved past;
-- `BadVarType` if there are no arrays of the type; otherwise `BadStub` only if no bytes at the reader encode one.
-- `Memory` occurs only after the numbers before the bounds. After an error the reader has not moved.
abbrev pub IsArrayFront : VarType → Result (ArrayValue Scalar) WireFault → Cursor → Cursor → Type 0
IsArrayFront t (Ok a) old new = (a.elem ≡ t) × ReadSpan (array a) old new
IsArrayFront t (Err BadStub) old new =
    IsSome (sf_type_of t) × ((a : ArrayValue Scalar) (end : Cursor) → a.elem ≡ t → ReadSpan (array a) old end → ⊥)
    × (new ≡ old)
IsArrayFront t (Err BadVarType) old new = (sf_type_of t ≡ None) × (new ≡ old)
IsArrayFront t (Err Memory) old new = IsSome (sf_type_of t) × (32 ≤ length old.rest) × (new ≡ old)
