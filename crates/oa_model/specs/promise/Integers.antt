-- The integer types and the ranges of their values; those of CY are counts of ten-thousandths (MS-OAUT sections 2.2.7
-- and 2.2.24).
use Rattle.std.specs.Prelude.{ℕ, ℤ, ◌^◌, ◌&&◌, nat_lt, pos, negsuc, Bool, true, false}
use Rattle.oa_model.specs.promise.Types.{is_signed_type}
use Rattle.oa_model.specs.declared.var_type.VarType.{VarType}
use Rattle.oa_model.specs.declared.var_type.VarType.TheVariants as types

-- The values of the type are whole numbers.
abbrev pub is_integer_type : VarType → Bool
is_integer_type types.I1 = true
is_integer_type types.I2 = true
is_integer_type types.I4 = true
is_integer_type types.I8 = true
is_integer_type types.Int = true
is_integer_type types.Ui1 = true
is_integer_type types.Ui2 = true
is_integer_type types.Ui4 = true
is_integer_type types.Ui8 = true
is_integer_type types.Uint = true
is_integer_type t = false

-- The values of the type are whole numbers of either sign. CY is signed too, but its values are no whole numbers.
abbrev pub is_signed_integer : VarType → Bool
is_signed_integer t = is_integer_type t && is_signed_type t

-- The numbers of an integer type, and of CY, are below 2^bits. The lowest is -2^bits if the type is signed, otherwise
-- 0.
abbrev pub bits_of : VarType → ℕ
bits_of types.I1 = 7
bits_of types.I2 = 15
bits_of types.I4 = 31
bits_of types.I8 = 63
bits_of types.Int = 31
bits_of types.Ui1 = 8
bits_of types.Ui2 = 16
bits_of types.Ui4 = 32
bits_of types.Ui8 = 64
bits_of types.Uint = 32
bits_of types.Cy = 63
bits_of t = 0

-- The number is in the range of the type.
abbrev pub in_range : VarType → ℤ → Bool
in_range t (pos n) = nat_lt n (2 ^ bits_of t)
in_range t (negsuc n) = is_signed_type t && nat_lt n (2 ^ bits_of t)
