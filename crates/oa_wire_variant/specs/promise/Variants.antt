-- The bytes of a whole field that encode a value, and the error of a field that encodes none: wireVARIANT (MS-OAUT
-- section 2.2.29).
use Rattle.std.specs.Prelude.{◌≡◌, ℕ, ◌+◌, ◌-◌, ◌&&◌, ◌⊎◌, nat_le, nat_lt, is_some, Bool, true, false, not}
use Rattle.std.specs.Prelude.{if◌then◌else◌, List, length, Option, Some, None}
use Rattle.oa_ndr.specs.promise.Forms.{Encoding, ◌▸◌, align, ignored, unit, with, given, referent}
use Rattle.oa_model.specs.promise.Invoke.{vt_array}
use Rattle.oa_model.specs.promise.Types.{vt_of, vt_of_value, type_at, sf_type_of}
use Rattle.oa_model.specs.declared.var_type.VarType.{VarType}
use Rattle.oa_model.specs.declared.var_type.VarType.TheVariants as types
use Rattle.oa_array.specs.promise.Arrays.{ArrayValue}
use Rattle.oa_variant.specs.promise.Variants.{value_type_of}
use Rattle.oa_variant.specs.declared.scalar.Scalar.{Scalar}
use Rattle.oa_variant.specs.declared.variant.Variant.{Variant}
use Rattle.oa_variant.specs.declared.variant.Variant.TheVariants.{One, Array}
use Rattle.oa_wire_array.specs.promise.Scalars.{own_vt, union}
use Rattle.oa_wire_array.specs.promise.Arrays.{array}
use Rattle.oa_wire_array.specs.declared.fault.WireFault.{WireFault}
use Rattle.oa_wire_array.specs.declared.fault.WireFault.TheVariants.{BadStub, BadVarType}

-- The number of a value's type: that of an array is the number of its elements' type with VT_ARRAY, 0x2000, added.
abbrev pub value_vt : Variant → ℕ
value_vt v = vt_of_value (value_type_of v)

-- The union of an array: the discriminant, which is VT_ARRAY or the vt (this project's choice), a referent, which is
-- set, and the rest of the array.
abbrev pub array_union : ArrayValue Scalar → Encoding
array_union a = with (unit 4) (λ d. given ((d ≡ vt_array) ⊎ (d ≡ vt_of a.elem + vt_array)) ▸ referent true ▸ array a)

-- The union of a value.
abbrev pub value_union : Variant → Encoding
value_union (One s) = union s
value_union (Array a) = array_union a

-- A wireVARIANT: clSize, rpcReserved, vt, three reserved numbers, the union.
abbrev pub variant : Variant → Encoding
variant v = align 8 ▸ ignored 4 ▸ ignored 4 ▸ unit 2 (value_vt v) ▸ ignored 2 ▸ ignored 2 ▸ ignored 2 ▸ value_union v

-- All of the bytes together encode the value.
abbrev pub Spells : List ℕ → Variant → Type 0
Spells bytes v = variant v 0 bytes

-- The type of some scalar: no value has the type VARIANT, which is only a declared type and a type of the elements of
-- arrays.
abbrev pub is_scalar_type : Option VarType → Bool
is_scalar_type None = false
is_scalar_type (Some types.Variant) = false
is_scalar_type (Some t) = true

-- The type of the elements of some array: those with an sfType.
abbrev pub is_cell_type : Option VarType → Bool
is_cell_type None = false
is_cell_type (Some t) = is_some (sf_type_of t)

-- Some value has this vt.
abbrev pub is_value_type : ℕ → Bool
is_value_type vt = if nat_lt vt vt_array then is_scalar_type (type_at vt) else is_cell_type (type_at (vt - vt_array))

-- The error of a field that encodes no value (this project's choice). It depends on the vt at offset 8, if the field is
-- long enough for a vt and a discriminant.
abbrev pub field_fault : List ℕ → WireFault
field_fault bytes = if nat_le 20 (length bytes) && not (is_value_type (own_vt bytes)) then BadVarType else BadStub
