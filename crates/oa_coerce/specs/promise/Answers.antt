-- The result of a coercion, or its refusal, as a function, for definitions that must compute it, such as the first
-- refusal of a call. The theorems `scalar_answer_is_coercion` and `answer_is_coercion` say that it agrees with the
-- relations of Coercions and Refusals. (This project's choice.)
use Rattle.std.specs.Prelude.{ℕ, ℤ, ◌+◌, ◌*◌, ◌/◌, ◌%◌, ◌^◌, ◌==◌, ◌&&◌, ◌||◌, nat_lt, not, if◌then◌else◌, Result, Ok}
use Rattle.std.specs.Prelude.{Err, pos, unsigned_abs}
use Rattle.std.specs.Int.{is_negative}
use Rattle.std.specs.Ordering.{int_eq}
use Rattle.oa_model.specs.promise.Integers.{in_range}
use Rattle.oa_model.specs.declared.var_type.VarType.{VarType}
use Rattle.oa_model.specs.declared.var_type.VarType.TheVariants as types
use Rattle.oa_model.specs.declared.var_type.ValueType.{ValueType}
use Rattle.oa_model.specs.declared.var_type.ValueType.TheVariants as kinds
use Rattle.oa_variant.specs.promise.Scalars.{type_of, zero_of}
use Rattle.oa_variant.specs.promise.Variants.{value_type_of, zero_value}
use Rattle.oa_variant.specs.declared.scalar.Scalar.{Scalar}
use Rattle.oa_variant.specs.declared.scalar.Scalar.TheVariants as scalars
use Rattle.oa_variant.specs.declared.variant.Variant.{Variant}
use Rattle.oa_variant.specs.declared.variant.Variant.TheVariants.{One}
use Rattle.oa_coerce.specs.promise.Numbers.{decimal_places, signed, number_in, as_decimal}
use Rattle.oa_coerce.specs.promise.Coercions.{rule_for, rule_of}
use Rattle.oa_coerce.specs.declared.fault.CoerceFault.{CoerceFault}
use Rattle.oa_coerce.specs.declared.fault.CoerceFault.TheVariants.{Overflow, TypeMismatch}
use Rattle.oa_coerce.specs.declared.number.Number.{Number}
use Rattle.oa_coerce.specs.declared.rule.Rule.{Rule}
use Rattle.oa_coerce.specs.declared.rule.Rule.TheVariants.{Unchanged, Zero, Nearest, Exact, ToTruth, NoRule}

-- The nearest whole number to whole / unit: the quotient, plus 1 if the rest is above half a unit, or if it is half a
-- unit and the quotient is odd.
abbrev pub half_even : ℕ → ℕ → ℕ
half_even whole unit =
    if nat_lt unit (2 * (whole % unit)) || 2 * (whole % unit) == unit && whole / unit % 2 == 1 then whole / unit + 1
    else whole / unit

-- The nearest count of units of 1 / 10^places to a number.
abbrev pub nearest_count : Number → ℕ → ℤ
nearest_count x places = signed (is_negative x.count) (half_even (unsigned_abs x.count * 10 ^ places) (10 ^ x.scale))

-- The scalar of an integer type, or of CY, with this count of its unit; EMPTY for any other type.
abbrev pub of_count : VarType → ℤ → Scalar
of_count types.I1 z = scalars.I1 z
of_count types.I2 z = scalars.I2 z
of_count types.I4 z = scalars.I4 z
of_count types.I8 z = scalars.I8 z
of_count types.Int z = scalars.Int z
of_count types.Cy z = scalars.Cy z
of_count types.Ui1 z = scalars.Ui1 (unsigned_abs z)
of_count types.Ui2 z = scalars.Ui2 (unsigned_abs z)
of_count types.Ui4 z = scalars.Ui4 (unsigned_abs z)
of_count types.Ui8 z = scalars.Ui8 (unsigned_abs z)
of_count types.Uint z = scalars.Uint (unsigned_abs z)
of_count t z = scalars.Empty

-- The scalar with this count, if it is in the range of the type; otherwise Overflow.
abbrev pub within_range : VarType → ℤ → Result Scalar CoerceFault
within_range to n = if in_range to n then Ok (of_count to n) else Err Overflow

-- The result of a rule for a scalar.
abbrev pub answer_by : Rule → Scalar → VarType → Result Scalar CoerceFault
answer_by Unchanged s to = Ok s
answer_by Zero s to = Ok (zero_of to)
answer_by Nearest s to = within_range to (nearest_count (number_in s) (decimal_places to))
answer_by Exact s to = Ok (scalars.Decimal (as_decimal (number_in s)))
answer_by ToTruth s to = Ok (scalars.Bool (not (int_eq (number_in s).count (pos 0))))
answer_by NoRule s to = Err TypeMismatch

-- The result of the coercion of a scalar to a type.
unfoldable pub coerced_scalar : Scalar → VarType → Result Scalar CoerceFault
coerced_scalar s to = answer_by (rule_for (type_of s) to) s to

-- The result for a scalar, as one for a value.
abbrev pub one_result : Result Scalar CoerceFault → Result Variant CoerceFault
one_result (Ok s) = Ok (One s)
one_result (Err f) = Err f

-- The result of a rule for a value.
abbrev pub value_by : Rule → Variant → ValueType → Result Variant CoerceFault
value_by Unchanged v to = Ok v
value_by Zero v to = Ok (zero_value to)
value_by r (One s) (kinds.One to) = one_result (answer_by r s to)
value_by r v to = Err TypeMismatch

-- The result of the coercion of a value to a declared type. It does not consider whether memory suffices for the array
-- that EMPTY becomes.
unfoldable pub coerced : Variant → ValueType → Result Variant CoerceFault
coerced v to = value_by (rule_of (value_type_of v) to) v to
