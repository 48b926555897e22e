-- Decoding a field as a function on lists, which agrees with the forms (the theorem is in proofs/VariantLaws).
use Rattle.std.specs.Prelude.{◌≡◌, ℕ, ◌-◌, ◌==◌, ◌&&◌, ◌||◌, nat_lt, Option, Some, None, Result, Ok, Err}
use Rattle.oa_ndr.specs.promise.Reading.{Decoder, ◌>>=◌, give, fail}
use Rattle.oa_ndr.specs.Reading.{choose, align_at, unit_at, referent_at}
use Rattle.oa_model.specs.promise.Invoke.{vt_array}
use Rattle.oa_model.specs.promise.Types.{type_at}
use Rattle.oa_model.specs.declared.var_type.VarType.{VarType}
use Rattle.oa_array.specs.promise.Arrays.{ArrayValue}
use Rattle.oa_variant.specs.declared.scalar.Scalar.{Scalar}
use Rattle.oa_variant.specs.declared.variant.Variant.{Variant}
use Rattle.oa_variant.specs.declared.variant.Variant.TheVariants.{One, Array}
use Rattle.oa_wire_text.specs.declared.fault.StubFault.{StubFault}
use Rattle.oa_wire_text.specs.declared.fault.StubFault.TheVariants.{BadStub, Memory}
use Rattle.oa_wire_array.specs.Reading.{union_at}
use Rattle.oa_wire_array.specs.ArrayReading.{array_at}

-- A call of the code on a whole field returns what the decoder does, unless memory runs out.
abbrev pub ReadsWholeField : {A : Type 0} → Result A StubFault → Option A → Type 0
ReadsWholeField (Ok x) read = read ≡ Some x
ReadsWholeField (Err BadStub) read = read ≡ None
ReadsWholeField (Err Memory) read = Unit {0}

-- Reads a scalar, after its vt.
unfoldable pub scalar_value_at : ℕ → Decoder Variant
scalar_value_at vt = do
  s ← union_at vt
  give (One s)

-- Reads the union of an array, after its vt; `t` is the type of its elements.
unfoldable pub array_union_at : VarType → ℕ → Decoder (ArrayValue Scalar)
array_union_at t vt = do
  discriminant ← unit_at 4
  is_set ← referent_at
  choose (((discriminant == vt_array) || (discriminant == vt)) && is_set) (array_at t) fail

-- Reads an array, after its vt; fails if its elements have no type.
unfoldable pub array_value_at : Option VarType → ℕ → Decoder Variant
array_value_at None vt = fail
array_value_at (Some t) vt = do
  a ← array_union_at t vt
  give (Array a)

-- Reads a value.
unfoldable pub variant_at : Decoder Variant
variant_at = do
  _ ← align_at 8
  _ ← unit_at 4
  _ ← unit_at 4
  vt ← unit_at 2
  _ ← unit_at 2
  _ ← unit_at 2
  _ ← unit_at 2
  choose (nat_lt vt vt_array) (scalar_value_at vt) (array_value_at (type_at (vt - vt_array)) vt)
