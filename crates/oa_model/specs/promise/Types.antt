-- The types of values: their numbers, and how arrays of them are marked on the wire.
use Rattle.std.specs.Prelude.{ℕ, ◌+◌, ◌==◌, Bool, true, false, if◌then◌else◌, Option, Some, None}
use Rattle.oa_model.specs.declared.var_type.VarType.{VarType}
use Rattle.oa_model.specs.declared.var_type.VarType.TheVariants as types
use Rattle.oa_model.specs.declared.var_type.ValueType.{ValueType}
use Rattle.oa_model.specs.declared.var_type.ValueType.TheVariants.{One, Array}
use Rattle.oa_model.specs.promise.Invoke.{vt_array}

-- The number of a type (MS-OAUT section 2.2.7).
abbrev pub vt_of : VarType → ℕ
vt_of types.Empty = 0
vt_of types.Null = 1
vt_of types.I2 = 2
vt_of types.I4 = 3
vt_of types.Cy = 6
vt_of types.Bstr = 8
vt_of types.Error = 10
vt_of types.Bool = 11
vt_of types.Variant = 12
vt_of types.Decimal = 14
vt_of types.I1 = 16
vt_of types.Ui1 = 17
vt_of types.Ui2 = 18
vt_of types.Ui4 = 19
vt_of types.I8 = 20
vt_of types.Ui8 = 21
vt_of types.Int = 22
vt_of types.Uint = 23

-- The type with a number, if there is one.
abbrev pub type_at : ℕ → Option VarType
type_at n =
    if n == 0 then Some types.Empty
    else if n == 1 then Some types.Null
    else if n == 2 then Some types.I2
    else if n == 3 then Some types.I4
    else if n == 6 then Some types.Cy
    else if n == 8 then Some types.Bstr
    else if n == 10 then Some types.Error
    else if n == 11 then Some types.Bool
    else if n == 12 then Some types.Variant
    else if n == 14 then Some types.Decimal
    else if n == 16 then Some types.I1
    else if n == 17 then Some types.Ui1
    else if n == 18 then Some types.Ui2
    else if n == 19 then Some types.Ui4
    else if n == 20 then Some types.I8
    else if n == 21 then Some types.Ui8
    else if n == 22 then Some types.Int
    else if n == 23 then Some types.Uint
    else None

-- The number of a type of values: that of an array has 0x2000 added (VT_ARRAY).
abbrev pub vt_of_value : ValueType → ℕ
vt_of_value (One t) = vt_of t
vt_of_value (Array t) = vt_of t + vt_array

-- The values of the type are signed numbers.
abbrev pub is_signed_type : VarType → Bool
is_signed_type types.I1 = true
is_signed_type types.I2 = true
is_signed_type types.I4 = true
is_signed_type types.I8 = true
is_signed_type types.Int = true
is_signed_type types.Cy = true
is_signed_type types.Empty = false
is_signed_type types.Null = false
is_signed_type types.Bstr = false
is_signed_type types.Error = false
is_signed_type types.Bool = false
is_signed_type types.Variant = false
is_signed_type types.Decimal = false
is_signed_type types.Ui1 = false
is_signed_type types.Ui2 = false
is_signed_type types.Ui4 = false
is_signed_type types.Ui8 = false
is_signed_type types.Uint = false

-- The sfType of an array with elements of this type (MS-OAUT section 2.2.8). This server has no arrays of types without
-- one.
abbrev pub sf_type_of : VarType → Option ℕ
sf_type_of types.I1 = Some 16
sf_type_of types.Ui1 = Some 16
sf_type_of types.I2 = Some 2
sf_type_of types.Ui2 = Some 2
sf_type_of types.Bool = Some 2
sf_type_of types.I4 = Some 3
sf_type_of types.Ui4 = Some 3
sf_type_of types.Int = Some 3
sf_type_of types.Uint = Some 3
sf_type_of types.I8 = Some 20
sf_type_of types.Ui8 = Some 20
sf_type_of types.Cy = Some 20
sf_type_of types.Bstr = Some 8
sf_type_of types.Variant = Some 12
sf_type_of types.Empty = None
sf_type_of types.Null = None
sf_type_of types.Error = None
sf_type_of types.Decimal = None

-- The number of bytes of an element in the memory of a 32-bit process that wrote the array (cbElements).
abbrev pub element_size_of : VarType → Option ℕ
element_size_of types.I1 = Some 1
element_size_of types.Ui1 = Some 1
element_size_of types.I2 = Some 2
element_size_of types.Ui2 = Some 2
element_size_of types.Bool = Some 2
element_size_of types.I4 = Some 4
element_size_of types.Ui4 = Some 4
element_size_of types.Int = Some 4
element_size_of types.Uint = Some 4
element_size_of types.I8 = Some 8
element_size_of types.Ui8 = Some 8
element_size_of types.Cy = Some 8
element_size_of types.Bstr = Some 4
element_size_of types.Variant = Some 16
element_size_of types.Empty = None
element_size_of types.Null = None
element_size_of types.Error = None
element_size_of types.Decimal = None
