-- The value of a parameter's default, in the parameter's type (this project's choice).
use Rattle.std.specs.Prelude.{ℕ, ℤ, pos, negsuc, Bool, true, false, nat_lt, nat_le, ◌*ℤ◌, ◌^◌, unsigned_abs}
use Rattle.std.specs.Prelude.{if◌then◌else◌, List, [], ◌∷◌, length, Option, Some, None}
use Rattle.std.specs.Int.{is_negative}
use Rattle.std.specs.Option.{option_map, option_and_then}
use Rattle.oa_model.specs.declared.var_type.VarType.{VarType}
use Rattle.oa_model.specs.declared.var_type.VarType.TheVariants as types
use Rattle.oa_model.specs.declared.var_type.ValueType.{ValueType}
use Rattle.oa_model.specs.declared.var_type.ValueType.TheVariants as values
use Rattle.oa_variant.specs.promise.Decimals.{DecimalValue}
use Rattle.oa_variant.specs.declared.scalar.Scalar.{Scalar}
use Rattle.oa_variant.specs.declared.scalar.Scalar.TheVariants as scalars
use Rattle.oa_idl.specs.declared.parts.Literal.{Literal}
use Rattle.oa_idl.specs.declared.parts.Literal.TheVariants as literals
use Rattle.oa_idl.specs.declared.parts.Parameter.{Parameter}

-- The number, if it is from 0 to below the bound.
abbrev pub natural : ℕ → ℤ → Option ℕ
natural bound (pos n) = if nat_lt n bound then Some n else None
natural bound (negsuc n) = None

-- The number, if it is from minus the bound to below the bound.
abbrev pub integer_within : ℕ → ℤ → Option ℤ
integer_within bound (pos n) = if nat_lt n bound then Some (pos n) else None
integer_within bound (negsuc n) = if nat_lt n bound then Some (negsuc n) else None

-- The DECIMAL of scale 0 with this value, if its magnitude is below 2^96. Zero has no minus sign.
abbrev pub decimal_from : ℤ → Option DecimalValue
decimal_from z =
    if nat_lt (unsigned_abs z) (2 ^ 96)
    then Some (record { negative = is_negative z; scale = 0; magnitude = unsigned_abs z })
    else None

-- A number as a value of a type; None if the type has no such value.
unfoldable pub number_as : VarType → ℤ → Option Scalar
number_as types.I1 z = option_map scalars.I1 (integer_within 128 z)
number_as types.I2 z = option_map scalars.I2 (integer_within 32768 z)
number_as types.I4 z = option_map scalars.I4 (integer_within 2147483648 z)
number_as types.I8 z = option_map scalars.I8 (integer_within 9223372036854775808 z)
number_as types.Int z = option_map scalars.Int (integer_within 2147483648 z)
number_as types.Ui1 z = option_map scalars.Ui1 (natural 256 z)
number_as types.Ui2 z = option_map scalars.Ui2 (natural 65536 z)
number_as types.Ui4 z = option_map scalars.Ui4 (natural 4294967296 z)
number_as types.Ui8 z = option_map scalars.Ui8 (natural 18446744073709551616 z)
number_as types.Uint z = option_map scalars.Uint (natural 4294967296 z)
number_as types.Error z = option_map scalars.Error (natural 4294967296 z)
number_as types.Cy z = option_map scalars.Cy (integer_within 9223372036854775808 (z *ℤ pos 10000))
number_as types.Decimal z = option_map scalars.Decimal (decimal_from z)
number_as types.Variant z = option_map scalars.I4 (integer_within 2147483648 z)
number_as t z = None

-- ASCII characters as 16-bit units, low byte first.
unfoldable pub wide : List ℕ → List ℕ
wide [] = []
wide (c ∷ cs) = c ∷ 0 ∷ wide cs

-- A string can be a default of this type.
abbrev pub holds_texts : VarType → Bool
holds_texts types.Bstr = true
holds_texts types.Variant = true
holds_texts t = false

-- A string as a value of a type. It has at most 131,072 characters, which are 262,144 bytes.
abbrev pub text_as : VarType → List ℕ → Option Scalar
text_as t cs = if holds_texts t then (if nat_le (length cs) 131072 then Some (scalars.Bstr (Some (wide cs))) else None)
    else None

-- `TRUE` or `FALSE` can be a default of this type.
abbrev pub holds_truths : VarType → Bool
holds_truths types.Bool = true
holds_truths types.Variant = true
holds_truths t = false

-- A truth value as a value of a type.
abbrev pub truth_as : VarType → Bool → Option Scalar
truth_as t b = if holds_truths t then Some (scalars.Bool b) else None

-- A default as a value of the parameter's type. A parameter of an array type has no default.
abbrev pub default_of : ValueType → Literal → Option Scalar
default_of (values.One t) (literals.Number z) = number_as t z
default_of (values.One t) (literals.Text cs) = text_as t cs
default_of (values.One t) (literals.Bool b) = truth_as t b
default_of (values.Array t) l = None

-- The value of a parameter's default; None if it has no default, or if its type has no such value.
abbrev pub default_value : Parameter → Option Scalar
default_value p = option_and_then (default_of p.value_type) p.default
