-- The results of a rule for scalars and for values.
use Rattle.std.specs.Prelude.{◌≡◌, ℤ}
use Rattle.std.proofs.Common.{refl, ap, subst}
use Rattle.oa_model.specs.declared.var_type.VarType.{VarType}
use Rattle.oa_model.specs.declared.var_type.ValueType.TheVariants as kinds
use Rattle.oa_variant.specs.promise.Keys.{key_number}
use Rattle.oa_variant.specs.promise.Scalars.{type_of, zero_of}
use Rattle.oa_variant.specs.Scalars.{IsScalar}
use Rattle.oa_variant.specs.declared.scalar.Scalar.{Scalar}
use Rattle.oa_variant.specs.declared.variant.Variant.{Variant}
use Rattle.oa_variant.specs.declared.variant.Variant.TheVariants.{One, Array}
use Rattle.oa_coerce.specs.promise.Numbers.{number_in, decimal_places}
use Rattle.oa_coerce.specs.Numbers.{IsNearest}
use Rattle.oa_coerce.specs.promise.Coercions.{rule_for}
use Rattle.oa_coerce.specs.Coercions.{Makes, MakesValue}
use Rattle.oa_coerce.specs.Refusals.{RefusesScalar, RefusesCoercion}
use Rattle.oa_coerce.specs.declared.fault.CoerceFault.{CoerceFault}
use Rattle.oa_coerce.specs.declared.fault.CoerceFault.TheVariants.{Overflow, TypeMismatch, Memory}
use Rattle.oa_coerce.specs.declared.rule.Rule.{Rule}
use Rattle.oa_coerce.specs.declared.rule.Rule.TheVariants.{Unchanged, Zero, Nearest, Exact, ToTruth, NoRule}
use Rattle.oa_coerce.proofs.Nearest.{one_nearest}

-- The result of a rule for a scalar is its result for the value.
pub lifted : (r : Rule) (s : Scalar) (to : VarType) (made : Scalar) → Makes r s to made → MakesValue r (One s) (kinds.One to) (One made)
lifted Unchanged s to made h = ap One h
lifted Zero s to made h = ap One h
lifted Nearest s to made h = h
lifted Exact s to made h = h
lifted ToTruth s to made h = h
lifted NoRule s to made h = h

-- The result of a rule for the value is one for the scalar.
pub lowered : (r : Rule) (s : Scalar) (to : VarType) (made : Variant) → MakesValue r (One s) (kinds.One to) made
    → (m : Scalar) × (made ≡ One m) × Makes r s to m
lowered Unchanged s to made h = (s, h, refl)
lowered Zero s to made h = (zero_of to, h, refl)
lowered Nearest s to (One m) h = (m, refl, h)
lowered Nearest s to (Array a) h = absurd h
lowered Exact s to (One m) h = (m, refl, h)
lowered Exact s to (Array a) h = absurd h
lowered ToTruth s to (One m) h = (m, refl, h)
lowered ToTruth s to (Array a) h = absurd h
lowered NoRule s to (One m) h = absurd h
lowered NoRule s to (Array a) h = absurd h

-- If no scalar of the type has the nearest number, there is no result.
pub none_in_range : (s : Scalar) (to : VarType) (n : ℤ) (r : Rule) → r ≡ Nearest → IsNearest (number_in s) (decimal_places to) n →
    ((made : Scalar) → IsScalar made → type_of made ≡ to → key_number made ≡ n → ⊥) → (made : Scalar) → Makes r s to made → ⊥
none_in_range s to n r e near none made h =
    let m : Makes Nearest s to made = subst (λ x. Makes x s to made) e h in
    none made m.0 m.1 (one_nearest (number_in s) (decimal_places to) (key_number made) n m.2 near)

-- a refused scalar is a refused value
pub refused_too : (s : Scalar) (to : VarType) (f : CoerceFault) → RefusesScalar s to f → RefusesCoercion (One s) (kinds.One to) f
refused_too s to Overflow h = (h.0, λ made g. let m = lowered (rule_for (type_of s) to) s to made g in h.1 m.0 m.2)
refused_too s to TypeMismatch h = h
refused_too s to Memory h = absurd h
