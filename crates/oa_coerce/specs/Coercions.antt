-- Definitions for contracts and proofs, beside promise/Coercions.
use Rattle.std.specs.Prelude.{◌≡◌, not, pos}
use Rattle.std.specs.Ordering.{int_eq}
use Rattle.oa_model.specs.declared.var_type.VarType.{VarType}
use Rattle.oa_model.specs.declared.var_type.ValueType.{ValueType}
use Rattle.oa_model.specs.declared.var_type.ValueType.TheVariants as kinds
use Rattle.oa_variant.specs.promise.Keys.{key_number}
use Rattle.oa_variant.specs.promise.Scalars.{type_of, zero_of}
use Rattle.oa_variant.specs.Scalars.{IsScalar}
use Rattle.oa_variant.specs.promise.Variants.{value_type_of, zero_value}
use Rattle.oa_variant.specs.declared.scalar.Scalar.{Scalar}
use Rattle.oa_variant.specs.declared.scalar.Scalar.TheVariants as scalars
use Rattle.oa_variant.specs.declared.variant.Variant.{Variant}
use Rattle.oa_variant.specs.declared.variant.Variant.TheVariants.{One}
use Rattle.oa_coerce.specs.promise.Numbers.{decimal_places, number_in, as_decimal}
use Rattle.oa_coerce.specs.Numbers.{IsNearest}
use Rattle.oa_coerce.specs.declared.rule.Rule.{Rule}
use Rattle.oa_coerce.specs.declared.rule.Rule.TheVariants.{Unchanged, Zero, Nearest, Exact, ToTruth, NoRule}
use Rattle.oa_coerce.specs.promise.Coercions.{rule_for, rule_of}

-- The rule makes the scalar `made` of the type from `s`. With `Nearest`, the nearest number must be that of a scalar of
-- the type.
abbrev pub Makes : Rule → Scalar → VarType → Scalar → Type 0
Makes Unchanged s to made = made ≡ s
Makes Zero s to made = made ≡ zero_of to
Makes Nearest s to made =
    IsScalar made × (type_of made ≡ to) × IsNearest (number_in s) (decimal_places to) (key_number made)
Makes Exact s to made = made ≡ scalars.Decimal (as_decimal (number_in s))
Makes ToTruth s to made = made ≡ scalars.Bool (not (int_eq (number_in s).count (pos 0)))
Makes NoRule s to made = ⊥

-- The coercion of a scalar to a type has the result `made`.
abbrev pub CoercesScalar : Scalar → VarType → Scalar → Type 0
CoercesScalar s to made = Makes (rule_for (type_of s) to) s to made

-- The rule makes the value `made` of the declared type from `v`.
abbrev pub MakesValue : Rule → Variant → ValueType → Variant → Type 0
MakesValue Unchanged v to made = made ≡ v
MakesValue Zero v to made = made ≡ zero_value to
MakesValue r (One s) (kinds.One to) (One made) = Makes r s to made
MakesValue r v to made = ⊥

-- The coercion of a value to a declared type has the result `made`.
abbrev pub Coerces : Variant → ValueType → Variant → Type 0
Coerces v to made = MakesValue (rule_of (value_type_of v) to) v to made
