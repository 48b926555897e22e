-- The computed result is the coercion.
use Rattle.std.specs.Prelude.{◌≡◌, ◌^◌, ℕ, nat_lt, FitsSigned, Bool, true, false, ℤ, pos, negsuc, cond, Result, Ok, Err, IfOk, IfErr}
use Rattle.std.proofs.Common.{refl, sym, ap, subst, ◌∙◌}
use mir.Val.{hbits}
use Rattle.std.specs.Int.{Width}
use Rattle.std.proofs.lemmas.Bool.{cond_both, cond-true, and_parts, lt-ltb, ltb-true, false≢true, true≢false}
use Rattle.oa_model.specs.promise.Integers.{in_range, bits_of}
use Rattle.oa_model.specs.promise.Types.{is_signed_type}
use Rattle.oa_model.specs.declared.var_type.VarType.{VarType}
use Rattle.oa_model.specs.declared.var_type.VarType.TheVariants as types
use Rattle.oa_model.specs.declared.var_type.ValueType.{ValueType}
use Rattle.oa_model.specs.declared.var_type.ValueType.TheVariants as kinds
use Rattle.oa_variant.specs.promise.Keys.{key_number}
use Rattle.oa_variant.specs.promise.Scalars.{type_of, same_type}
use Rattle.oa_variant.specs.Scalars.{IsScalar}
use Rattle.oa_variant.specs.declared.scalar.Scalar.{Scalar}
use Rattle.oa_variant.specs.declared.scalar.Scalar.TheVariants as scalars
use Rattle.oa_variant.specs.declared.variant.Variant.{Variant}
use Rattle.oa_variant.specs.declared.variant.Variant.TheVariants.{One, Array}
use Rattle.oa_coerce.specs.promise.Numbers.{counts_units, decimal_places, number_in}
use Rattle.oa_coerce.specs.Numbers.{IsNearest}
use Rattle.oa_coerce.specs.promise.Coercions.{rule_for}
use Rattle.oa_coerce.specs.Coercions.{Makes, MakesValue, CoercesScalar, Coerces}
use Rattle.oa_coerce.specs.Refusals.{RefusesScalar, RefusesCoercion}
use Rattle.oa_coerce.specs.promise.Answers.{nearest_count, of_count, answer_by, coerced_scalar, one_result, value_by}
use Rattle.oa_coerce.specs.promise.Answers.{coerced}
use Rattle.oa_coerce.specs.Answers.{is_memory, IsScalarAnswer, IsCoercion}
use Rattle.oa_coerce.specs.declared.fault.CoerceFault.{CoerceFault}
use Rattle.oa_coerce.specs.declared.fault.CoerceFault.TheVariants.{Overflow, TypeMismatch, Memory}
use Rattle.oa_coerce.specs.declared.rule.Rule.{Rule}
use Rattle.oa_coerce.specs.declared.rule.Rule.TheVariants.{Unchanged, Zero, Nearest, Exact, ToTruth, NoRule}
use Rattle.oa_coerce.proofs.Nearest.{one_nearest, computed_is_nearest}
use Rattle.oa_coerce.proofs.Rules.{by_rule, made_back}
use Rattle.oa_coerce.proofs.Lifted.{lifted, lowered}

-- the range of a signed type is that of its width
signed_ranged : (t : VarType) (w : Width) (z : ℤ) → is_signed_type t ≡ true → bits_of t ≡ hbits w → FitsSigned w z → in_range t z ≡ true
signed_ranged t w (pos n) signed bits h = rw bits (lt-ltb n (2 ^ hbits w) h.sfits)
signed_ranged t w (negsuc n) signed bits h = rw (signed, bits) (lt-ltb n (2 ^ hbits w) h.sfits)

fits_signed : (t : VarType) (w : Width) (z : ℤ) → is_signed_type t ≡ true → bits_of t ≡ hbits w → in_range t z ≡ true → FitsSigned w z
fits_signed t w (pos n) signed bits e = record { sfits = ltb-true n (2 ^ hbits w) (subst (λ (k : ℕ). nat_lt n (2 ^ k) ≡ true) bits e) }
fits_signed t w (negsuc n) signed bits e =
    let below = (and_parts (is_signed_type t) (nat_lt n (2 ^ bits_of t)) e).1 in
    record { sfits = ltb-true n (2 ^ hbits w) (subst (λ (k : ℕ). nat_lt n (2 ^ k) ≡ true) bits below) }

-- a scalar of an integer type, or of CY, has a number in the range of its type
ranged : (m : Scalar) → counts_units (type_of m) ≡ true → IsScalar m → in_range (type_of m) (key_number m) ≡ true
ranged (scalars.Ui1 n) u h = lt-ltb n (2 ^ 8) h
ranged (scalars.Ui2 n) u h = lt-ltb n (2 ^ 16) h
ranged (scalars.Ui4 n) u h = lt-ltb n (2 ^ 32) h
ranged (scalars.Ui8 n) u h = lt-ltb n (2 ^ 64) h
ranged (scalars.Uint n) u h = lt-ltb n (2 ^ 32) h
ranged scalars.Empty u h = absurd (false≢true u)
ranged scalars.Null u h = absurd (false≢true u)
ranged (scalars.Bool b) u h = absurd (false≢true u)
ranged (scalars.Error n) u h = absurd (false≢true u)
ranged (scalars.Bstr t) u h = absurd (false≢true u)
ranged (scalars.Decimal d) u h = absurd (false≢true u)
ranged s u h = signed_ranged (type_of s) _ (key_number s) refl refl h

-- and each number in the range of such a type is that of a scalar of it
made_of : (to : VarType) (n : ℤ) → counts_units to ≡ true → in_range to n ≡ true
    → IsScalar (of_count to n) × (type_of (of_count to n) ≡ to) × (key_number (of_count to n) ≡ n)
made_of types.Ui1 (pos n) u e = (ltb-true n (2 ^ 8) e, refl, refl)
made_of types.Ui1 (negsuc n) u e = absurd (false≢true e)
made_of types.Ui2 (pos n) u e = (ltb-true n (2 ^ 16) e, refl, refl)
made_of types.Ui2 (negsuc n) u e = absurd (false≢true e)
made_of types.Ui4 (pos n) u e = (ltb-true n (2 ^ 32) e, refl, refl)
made_of types.Ui4 (negsuc n) u e = absurd (false≢true e)
made_of types.Ui8 (pos n) u e = (ltb-true n (2 ^ 64) e, refl, refl)
made_of types.Ui8 (negsuc n) u e = absurd (false≢true e)
made_of types.Uint (pos n) u e = (ltb-true n (2 ^ 32) e, refl, refl)
made_of types.Uint (negsuc n) u e = absurd (false≢true e)
made_of types.Empty n u e = absurd (false≢true u)
made_of types.Null n u e = absurd (false≢true u)
made_of types.Bool n u e = absurd (false≢true u)
made_of types.Error n u e = absurd (false≢true u)
made_of types.Bstr n u e = absurd (false≢true u)
made_of types.Decimal n u e = absurd (false≢true u)
made_of types.Variant n u e = absurd (false≢true u)
made_of t n u e = (fits_signed t _ n refl refl e, refl, refl)

-- a number in range is made by Nearest
in_range_is_made : (s : Scalar) (to : VarType) → counts_units to ≡ true → (n : ℤ) → n ≡ nearest_count (number_in s) (decimal_places to)
    → in_range to n ≡ true → Makes Nearest s to (of_count to n)
in_range_is_made s to u n e fits = let m = made_of to n u fits in
    (m.0, m.1, subst (IsNearest (number_in s) (decimal_places to)) (sym (m.2 ∙ e)) (computed_is_nearest (number_in s) (decimal_places to)))

-- telling results apart
abbrev scalar_in : Result Scalar CoerceFault → Scalar → Scalar
scalar_in (Ok m) s = m
scalar_in (Err f) s = s

abbrev is_scalar : Result Scalar CoerceFault → Bool
is_scalar (Ok m) = true
is_scalar (Err f) = false

abbrev value_in : Result Variant CoerceFault → Variant → Variant
value_in (Ok m) v = m
value_in (Err f) v = v

abbrev is_value : Result Variant CoerceFault → Bool
is_value (Ok m) = true
is_value (Err f) = false

abbrev is_nearest : Rule → Bool
is_nearest Nearest = true
is_nearest r = false

-- scalars

pub scalar_answer : (s made : Scalar) (to : VarType) → CoercesScalar s to made → coerced_scalar s to ≡ Ok made
unfolding coerced_scalar
scalar_answer s made to = by_rule (λ r. Makes r s to made → answer_by r s to ≡ Ok made) (type_of s) to
    (λ _ h. ap Ok (sym h))
    (λ _ h. ap Ok (sym h))
    (λ units h.
    let n = nearest_count (number_in s) (decimal_places to) in
    let same = one_nearest (number_in s) (decimal_places to) (key_number made) n h.2 (computed_is_nearest (number_in s) (decimal_places to)) in
    let of_made = ap counts_units h.1 ∙ units in
    let fits : in_range to n ≡ true = (λ i. in_range (sym h.1 i) (sym same i)) ∙ ranged made of_made h.0 in
    cond-true (in_range to n) (Ok (of_count to n)) (Err Overflow) fits ∙ ap Ok ((λ i. of_count (sym h.1 i) (sym same i)) ∙ made_back made of_made))
    (λ _ _ h. ap Ok (sym h))
    (λ _ _ h. ap Ok (sym h))
    (λ none. absurd none)

pub answer_scalar : (s made : Scalar) (to : VarType) → coerced_scalar s to ≡ Ok made → CoercesScalar s to made
unfolding coerced_scalar
answer_scalar s made to = by_rule (λ r. answer_by r s to ≡ Ok made → Makes r s to made) (type_of s) to
    (λ _ h. sym (ap (λ r. scalar_in r s) h))
    (λ _ h. sym (ap (λ r. scalar_in r s) h))
    (λ units. let n = nearest_count (number_in s) (decimal_places to) in
    cond_both (in_range to n) (Ok (of_count to n)) (Err Overflow) (λ a. a ≡ Ok made → Makes Nearest s to made)
    (λ fits h. subst (Makes Nearest s to) (ap (λ r. scalar_in r s) h) (in_range_is_made s to units n refl fits))
    (λ _ h. absurd (false≢true (ap is_scalar h))))
    (λ _ _ h. sym (ap (λ r. scalar_in r s) h))
    (λ _ _ h. sym (ap (λ r. scalar_in r s) h))
    (λ h. absurd (false≢true (ap is_scalar h)))

pub scalar_refused : (s : Scalar) (to : VarType) (f : CoerceFault) → RefusesScalar s to f → coerced_scalar s to ≡ Err f
unfolding coerced_scalar
scalar_refused s to Overflow h = by_rule (λ r. r ≡ Nearest → ((made : Scalar) → Makes r s to made → ⊥) → answer_by r s to ≡ Err Overflow) (type_of s) to
    (λ _ e none. absurd (false≢true (ap is_nearest e)))
    (λ _ e none. absurd (false≢true (ap is_nearest e)))
    (λ units e none. let n = nearest_count (number_in s) (decimal_places to) in
    cond_both (in_range to n) (Ok (of_count to n)) (Err Overflow) (λ a. a ≡ Err Overflow)
    (λ fits. absurd (none (of_count to n) (in_range_is_made s to units n refl fits)))
    (λ _. refl))
    (λ _ _ e none. absurd (false≢true (ap is_nearest e)))
    (λ _ _ e none. absurd (false≢true (ap is_nearest e)))
    (λ e none. absurd (false≢true (ap is_nearest e))) h.0 h.1
scalar_refused s to TypeMismatch h = ap (λ r. answer_by r s to) h
scalar_refused s to Memory h = absurd h

-- values

by_one : (r : Rule) (s : Scalar) (to : VarType) → value_by r (One s) (kinds.One to) ≡ one_result (answer_by r s to)
by_one Unchanged s to = refl
by_one Zero s to = refl
by_one Nearest s to = refl
by_one Exact s to = refl
by_one ToTruth s to = refl
by_one NoRule s to = refl

of_one : (s : Scalar) (to : VarType) → coerced (One s) (kinds.One to) ≡ one_result (coerced_scalar s to)
unfolding coerced coerced_scalar
of_one s to = by_one (rule_for (type_of s) to) s to

made_one : (r : Result Scalar CoerceFault) (made : Variant) → one_result r ≡ Ok made → (m : Scalar) × (r ≡ Ok m) × (made ≡ One m)
made_one (Ok m) made h = (m, refl, sym (ap (λ r. value_in r (One m)) h))
made_one (Err f) made h = absurd (false≢true (ap is_value h))

pub value_answer : (v made : Variant) (to : ValueType) → Coerces v to made → coerced v to ≡ Ok made
unfolding coerced
value_answer (One s) made (kinds.One to) = λ h.
    let x = lowered (rule_for (type_of s) to) s to made h in
    of_one s to ∙ (ap one_result (scalar_answer s x.0 to x.2) ∙ ap Ok (sym x.1))
value_answer (One s) made (kinds.Array to) =
    cond_both (same_type (type_of s) types.Empty) Zero NoRule (λ r. MakesValue r (One s) (kinds.Array to) made → value_by r (One s) (kinds.Array to) ≡ Ok made)
    (λ _ h. ap Ok (sym h)) (λ _ none. absurd none)
value_answer (Array x) made (kinds.One to) =
    cond_both (same_type to types.Variant) Unchanged NoRule (λ r. MakesValue r (Array x) (kinds.One to) made → value_by r (Array x) (kinds.One to) ≡ Ok made)
    (λ _ h. ap Ok (sym h)) (λ _ none. absurd none)
value_answer (Array x) made (kinds.Array to) =
    cond_both (same_type x.elem to) Unchanged NoRule (λ r. MakesValue r (Array x) (kinds.Array to) made → value_by r (Array x) (kinds.Array to) ≡ Ok made)
    (λ _ h. ap Ok (sym h)) (λ _ none. absurd none)

pub answer_value : (v made : Variant) (to : ValueType) → coerced v to ≡ Ok made → Coerces v to made
unfolding coerced
answer_value (One s) made (kinds.One to) = λ h.
    let x = made_one (coerced_scalar s to) made (sym (of_one s to) ∙ h) in
    subst (λ y. Coerces (One s) (kinds.One to) y) (sym x.2) (lifted (rule_for (type_of s) to) s to x.0 (answer_scalar s x.0 to x.1))
answer_value (One s) made (kinds.Array to) =
    cond_both (same_type (type_of s) types.Empty) Zero NoRule (λ r. value_by r (One s) (kinds.Array to) ≡ Ok made → MakesValue r (One s) (kinds.Array to) made)
    (λ _ h. sym (ap (λ r. value_in r made) h)) (λ _ h. absurd (false≢true (ap is_value h)))
answer_value (Array x) made (kinds.One to) =
    cond_both (same_type to types.Variant) Unchanged NoRule (λ r. value_by r (Array x) (kinds.One to) ≡ Ok made → MakesValue r (Array x) (kinds.One to) made)
    (λ _ h. sym (ap (λ r. value_in r made) h)) (λ _ h. absurd (false≢true (ap is_value h)))
answer_value (Array x) made (kinds.Array to) =
    cond_both (same_type x.elem to) Unchanged NoRule (λ r. value_by r (Array x) (kinds.Array to) ≡ Ok made → MakesValue r (Array x) (kinds.Array to) made)
    (λ _ h. sym (ap (λ r. value_in r made) h)) (λ _ h. absurd (false≢true (ap is_value h)))

by_no_rule : (v : Variant) (to : ValueType) → value_by NoRule v to ≡ Err TypeMismatch
by_no_rule (One s) (kinds.One to) = refl
by_no_rule (One s) (kinds.Array to) = refl
by_no_rule (Array x) to = refl

not_nearest : (test : Bool) (r q : Rule) → is_nearest r ≡ false → is_nearest q ≡ false → cond test r q ≡ Nearest → ⊥
not_nearest true r q e f h = false≢true (sym e ∙ ap is_nearest h)
not_nearest false r q e f h = false≢true (sym f ∙ ap is_nearest h)

pub value_refused : (v : Variant) (to : ValueType) (f : CoerceFault) → RefusesCoercion v to f → is_memory f ≡ false → coerced v to ≡ Err f
unfolding coerced
value_refused (One s) (kinds.One to) Overflow h m =
    of_one s to ∙ ap one_result (scalar_refused s to Overflow (h.0, λ x k. h.1 (One x) (lifted (rule_for (type_of s) to) s to x k)))
value_refused (One s) (kinds.Array to) Overflow h m = absurd (not_nearest (same_type (type_of s) types.Empty) Zero NoRule refl refl h.0)
value_refused (Array x) (kinds.One to) Overflow h m = absurd (not_nearest (same_type to types.Variant) Unchanged NoRule refl refl h.0)
value_refused (Array x) (kinds.Array to) Overflow h m = absurd (not_nearest (same_type x.elem to) Unchanged NoRule refl refl h.0)
value_refused v to TypeMismatch h m = ap (λ r. value_by r v to) h ∙ by_no_rule v to
value_refused v to Memory h m = absurd (true≢false m)

-- A result that is the coercion, or its refusal, is the computed one.
pub scalar_result : (s : Scalar) (to : VarType) (r : Result Scalar (Scalar × CoerceFault)) → IfOk r (λ made. CoercesScalar s to made) →
    IfErr r (λ e. (e.0 ≡ s) × RefusesScalar s to e.1) → IsScalarAnswer (coerced_scalar s to) r
scalar_result s to (Ok made) h g = scalar_answer s made to h
scalar_result s to (Err e) h g = scalar_refused s to e.1 g.1

pub value_result : (v : Variant) (to : ValueType) (r : Result Variant (Variant × CoerceFault)) → IfOk r (λ made. Coerces v to made) →
    IfErr r (λ e. (e.0 ≡ v) × RefusesCoercion v to e.1) → IsCoercion (coerced v to) r
value_result v to (Ok made) h g = value_answer v made to h
value_result v to (Err e) h g = λ m. value_refused v to e.1 g.1 m
