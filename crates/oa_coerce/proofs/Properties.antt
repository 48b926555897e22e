-- Properties of all coercions.
use Rattle.std.specs.Prelude.{◌≡◌, true, false}
use Rattle.std.proofs.Common.{refl, sym, ap, subst, ◌∙◌}
use Rattle.std.proofs.lemmas.Bool.{cond_both, or_right, false≢true}
use Rattle.oa_model.specs.promise.Integers.{is_integer_type}
use Rattle.oa_model.specs.declared.var_type.VarType.{VarType}
use Rattle.oa_model.specs.declared.var_type.VarType.TheVariants as types
use Rattle.oa_model.specs.declared.var_type.ValueType.{ValueType}
use Rattle.oa_model.specs.declared.var_type.ValueType.TheVariants as kinds
use Rattle.oa_variant.specs.promise.Keys.{key_number}
use Rattle.oa_variant.specs.promise.Scalars.{type_of, same_type, fits_type, zero_of}
use Rattle.oa_variant.specs.promise.Variants.{fits_declared}
use Rattle.oa_variant.specs.declared.scalar.Scalar.{Scalar}
use Rattle.oa_variant.specs.declared.scalar.Scalar.TheVariants as scalars
use Rattle.oa_variant.specs.declared.variant.Variant.{Variant}
use Rattle.oa_variant.specs.declared.variant.Variant.TheVariants.{One, Array}
use Rattle.oa_coerce.specs.promise.Numbers.{decimal_places, number_in}
use Rattle.oa_coerce.specs.Numbers.{IsNearest}
use Rattle.oa_coerce.specs.promise.Coercions.{rule_for}
use Rattle.oa_coerce.specs.Coercions.{Makes, MakesValue, CoercesScalar, Coerces}
use Rattle.oa_coerce.specs.declared.rule.Rule.TheVariants.{Unchanged, Zero, NoRule}
use Rattle.oa_coerce.proofs.Nearest.{one_nearest, nearest_itself}
use Rattle.oa_coerce.proofs.Rules.{are_same, tests_same, by_rule, same_scalar}
use Rattle.oa_coerce.proofs.Lifted.{lowered}

-- One result.

one_scalar : (s a b : Scalar) (to : VarType) → CoercesScalar s to a → CoercesScalar s to b → a ≡ b
one_scalar s a b to = by_rule (λ r. Makes r s to a → Makes r s to b → a ≡ b) (type_of s) to
    (λ _ of_a of_b. of_a ∙ sym of_b)
    (λ _ of_a of_b. of_a ∙ sym of_b)
    (λ units of_a of_b. same_scalar a b to units of_a.1 of_b.1 (one_nearest (number_in s) (decimal_places to) (key_number a) (key_number b) of_a.2 of_b.2))
    (λ _ _ of_a of_b. of_a ∙ sym of_b)
    (λ _ _ of_a of_b. of_a ∙ sym of_b)
    (λ none _. absurd none)

pub one_answer : (v a b : Variant) (to : ValueType) → Coerces v to a → Coerces v to b → a ≡ b
one_answer (One s) a b (kinds.One to) = λ of_a of_b.
    let x = lowered (rule_for (type_of s) to) s to a of_a in
    let y = lowered (rule_for (type_of s) to) s to b of_b in
    x.1 ∙ (ap One (one_scalar s x.0 y.0 to x.2 y.2) ∙ sym y.1)
one_answer (One s) a b (kinds.Array to) =
    cond_both (same_type (type_of s) types.Empty) Zero NoRule (λ r. MakesValue r (One s) (kinds.Array to) a → MakesValue r (One s) (kinds.Array to) b → a ≡ b)
    (λ _ of_a of_b. of_a ∙ sym of_b) (λ _ none _. absurd none)
one_answer (Array x) a b (kinds.One to) =
    cond_both (same_type to types.Variant) Unchanged NoRule (λ r. MakesValue r (Array x) (kinds.One to) a → MakesValue r (Array x) (kinds.One to) b → a ≡ b)
    (λ _ of_a of_b. of_a ∙ sym of_b) (λ _ none _. absurd none)
one_answer (Array x) a b (kinds.Array to) =
    cond_both (same_type x.elem to) Unchanged NoRule (λ r. MakesValue r (Array x) (kinds.Array to) a → MakesValue r (Array x) (kinds.Array to) b → a ≡ b)
    (λ _ of_a of_b. of_a ∙ sym of_b) (λ _ none _. absurd none)

-- The result is of the type.

zero_fits_type : (t : VarType) → fits_type (zero_of t) t ≡ true
zero_fits_type types.Empty = refl
zero_fits_type t = refl

of_its_type : (m : Scalar) (to : VarType) → type_of m ≡ to → fits_type m to ≡ true
of_its_type m to e = or_right (same_type to types.Variant) (same_type (type_of m) to) (tests_same (type_of m) to e)

pub scalar_fits : (s made : Scalar) (to : VarType) → CoercesScalar s to made → fits_type made to ≡ true
scalar_fits s made to = by_rule (λ r. Makes r s to made → fits_type made to ≡ true) (type_of s) to
    (λ fits h. ap (λ x. fits_type x to) h ∙ fits)
    (λ _ h. ap (λ x. fits_type x to) h ∙ zero_fits_type to)
    (λ _ h. of_its_type made to h.1)
    (λ _ e h. of_its_type made to (ap type_of h ∙ sym e))
    (λ _ e h. of_its_type made to (ap type_of h ∙ sym e))
    (λ none. absurd none)

pub answer_fits : (v made : Variant) (to : ValueType) → Coerces v to made → fits_declared made to ≡ true
answer_fits (One s) made (kinds.One to) = λ h.
    let x = lowered (rule_for (type_of s) to) s to made h in
    ap (λ y. fits_declared y (kinds.One to)) x.1 ∙ scalar_fits s x.0 to x.2
answer_fits (One s) made (kinds.Array to) =
    cond_both (same_type (type_of s) types.Empty) Zero NoRule (λ r. MakesValue r (One s) (kinds.Array to) made → fits_declared made (kinds.Array to) ≡ true)
    (λ _ h. ap (λ y. fits_declared y (kinds.Array to)) h ∙ tests_same to to refl) (λ _ none. absurd none)
answer_fits (Array x) made (kinds.One to) =
    cond_both (same_type to types.Variant) Unchanged NoRule (λ r. MakesValue r (Array x) (kinds.One to) made → fits_declared made (kinds.One to) ≡ true)
    (λ fits h. ap (λ y. fits_declared y (kinds.One to)) h ∙ fits) (λ _ none. absurd none)
answer_fits (Array x) made (kinds.Array to) =
    cond_both (same_type x.elem to) Unchanged NoRule (λ r. MakesValue r (Array x) (kinds.Array to) made → fits_declared made (kinds.Array to) ≡ true)
    (λ fits h. ap (λ y. fits_declared y (kinds.Array to)) h ∙ fits) (λ _ none. absurd none)

-- integers stay

no_places : (t : VarType) → is_integer_type t ≡ true → decimal_places t ≡ 0
no_places types.Empty u = refl
no_places t u = cc

-- a value of an integer type is a count of ones
counts_ones : (s : Scalar) → is_integer_type (type_of s) ≡ true → number_in s ≡ record { count = key_number s; scale = 0 }
counts_ones scalars.Empty u = absurd (false≢true u)
counts_ones s u = cc

other_type : (t u : VarType) → is_integer_type t ≡ true → is_integer_type u ≡ false → t ≡ u → ⊥
other_type t u integer not_u e = false≢true (sym not_u ∙ (ap is_integer_type (sym e) ∙ integer))

pub integers_stay : (s made : Scalar) (to : VarType) → is_integer_type (type_of s) ≡ true → is_integer_type to ≡ true
    → CoercesScalar s to made → key_number made ≡ key_number s
integers_stay s made to from into = by_rule (λ r. Makes r s to made → key_number made ≡ key_number s) (type_of s) to
    (λ _ h. ap key_number h)
    (λ empty h. absurd (other_type (type_of s) types.Empty from refl (are_same (type_of s) types.Empty empty)))
    (λ _ h. let near = subst (λ p. IsNearest (number_in s) p (key_number made)) (no_places to into) h.2 in
    one_nearest (record { count = key_number s; scale = 0 }) 0 (key_number made) (key_number s)
    (subst (λ x. IsNearest x 0 (key_number made)) (counts_ones s from) near) (nearest_itself (key_number s) 0))
    (λ _ e h. absurd (other_type to types.Decimal into refl e))
    (λ _ e h. absurd (other_type to types.Bool into refl e))
    (λ none. absurd none)
