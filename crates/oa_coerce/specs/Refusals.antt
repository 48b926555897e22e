-- Definitions for contracts and proofs, beside promise/Refusals.
use Rattle.std.specs.Prelude.{◌≡◌}
use Rattle.oa_model.specs.declared.var_type.VarType.{VarType}
use Rattle.oa_model.specs.declared.var_type.ValueType.{ValueType}
use Rattle.oa_variant.specs.promise.Scalars.{type_of}
use Rattle.oa_variant.specs.promise.Variants.{value_type_of}
use Rattle.oa_variant.specs.declared.scalar.Scalar.{Scalar}
use Rattle.oa_variant.specs.declared.variant.Variant.{Variant}
use Rattle.oa_coerce.specs.promise.Coercions.{rule_for, rule_of}
use Rattle.oa_coerce.specs.Coercions.{CoercesScalar, Coerces}
use Rattle.oa_coerce.specs.declared.fault.CoerceFault.{CoerceFault}
use Rattle.oa_coerce.specs.declared.fault.CoerceFault.TheVariants.{Overflow, TypeMismatch, Memory}
use Rattle.oa_coerce.specs.declared.rule.Rule.TheVariants.{Zero, Nearest, NoRule}
use Rattle.oa_coerce.specs.promise.Refusals.{IsArrayType}

-- The refusal of the coercion of a scalar is right: the rule is `Nearest` and no scalar of the type has the nearest
-- number, or there is no rule. Scalars need no memory.
abbrev pub RefusesScalar : Scalar → VarType → CoerceFault → Type 0
RefusesScalar s to Overflow = (rule_for (type_of s) to ≡ Nearest) × ((made : Scalar) → CoercesScalar s to made → ⊥)
RefusesScalar s to TypeMismatch = rule_for (type_of s) to ≡ NoRule
RefusesScalar s to Memory = ⊥

-- As `RefusesScalar`, for a value. The zero value of an array type needs memory.
abbrev pub RefusesCoercion : Variant → ValueType → CoerceFault → Type 0
RefusesCoercion v to Overflow = (rule_of (value_type_of v) to ≡ Nearest) × ((made : Variant) → Coerces v to made → ⊥)
RefusesCoercion v to TypeMismatch = rule_of (value_type_of v) to ≡ NoRule
RefusesCoercion v to Memory = (rule_of (value_type_of v) to ≡ Zero) × IsArrayType to
