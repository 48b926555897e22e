-- The numbers of scalars, and the count of units that is nearest to a number.
use Rattle.std.specs.Prelude.{◌||◌, if◌then◌else◌, ℕ, ℤ, Bool, true, false, pos, neg_ℤ, unsigned_abs}
use Rattle.std.specs.Int.{is_negative}
use Rattle.oa_model.specs.promise.Integers.{is_integer_type}
use Rattle.oa_model.specs.declared.var_type.VarType.{VarType}
use Rattle.oa_model.specs.declared.var_type.VarType.TheVariants as types
use Rattle.oa_variant.specs.promise.Decimals.{DecimalValue}
use Rattle.oa_variant.specs.promise.Keys.{key_number}
use Rattle.oa_variant.specs.promise.Scalars.{type_of, same_type}
use Rattle.oa_variant.specs.declared.scalar.Scalar.{Scalar}
use Rattle.oa_variant.specs.declared.scalar.Scalar.TheVariants as scalars
use Rattle.oa_coerce.specs.declared.number.Number.{Number}

-- The values of the type are whole counts of one unit: of 1, and for CY of a ten-thousandth (MS-OAUT section 2.2.24).
abbrev pub counts_units : VarType → Bool
counts_units t = is_integer_type t || same_type t types.Cy

-- The number of decimal places of the unit, which is 1 / 10^places.
abbrev pub decimal_places : VarType → ℕ
decimal_places types.Cy = 4
decimal_places t = 0

-- The values of the type are numbers.
abbrev pub is_number_type : VarType → Bool
is_number_type t = counts_units t || same_type t types.Decimal

-- n, or -n if the sign is minus.
abbrev pub signed : Bool → ℕ → ℤ
signed false n = pos n
signed true n = neg_ℤ (pos n)

-- The number of a scalar, count / 10^scale: that of a DECIMAL is sign × magnitude / 10^scale (MS-OAUT section 2.2.26),
-- true is -1 (VARIANT_TRUE, section 2.2.27) and false is 0. EMPTY, NULL and texts have none, and ERROR is a code; no
-- rule uses theirs.
abbrev pub number_in : Scalar → Number
number_in (scalars.Decimal d) = record { count = signed d.negative d.magnitude; scale = d.scale }
number_in (scalars.Bool b) = record { count = signed b (if b then 1 else 0); scale = 0 }
number_in s = record { count = key_number s; scale = decimal_places (type_of s) }

-- The number as a DECIMAL of its own scale. Zero has no minus sign.
abbrev pub as_decimal : Number → DecimalValue
as_decimal x = record { negative = is_negative x.count; scale = x.scale; magnitude = unsigned_abs x.count }
