-- Facts about types for which a rule applies.
use Rattle.std.specs.Prelude.{◌≡◌, ◌&&◌, ◌||◌, true}
use Rattle.std.proofs.Common.{refl, sym, ap, ◌∙◌}
use Rattle.std.proofs.lemmas.Bool.{cond_both, and_parts, or_left, false≢true}
use denote.Enum.Bare.{same_true, true_same}
use Rattle.oa_model.specs.promise.Integers.{is_integer_type, is_signed_integer}
use Rattle.oa_model.specs.promise.Types.{is_signed_type}
use Rattle.oa_model.specs.contracts.var_type.VarType.{the_type as var_type}
use Rattle.oa_model.specs.declared.var_type.VarType.{VarType}
use Rattle.oa_model.specs.declared.var_type.VarType.TheVariants as types
use Rattle.oa_variant.specs.promise.Keys.{key_number}
use Rattle.oa_variant.specs.promise.Scalars.{type_of, same_type}
use Rattle.oa_variant.specs.declared.scalar.Scalar.{Scalar}
use Rattle.oa_variant.specs.declared.scalar.Scalar.TheVariants as scalars
use Rattle.oa_coerce.specs.promise.Numbers.{counts_units, is_number_type}
use Rattle.oa_coerce.specs.promise.Coercions.{rule_for}
use Rattle.oa_coerce.specs.promise.Answers.{of_count}
use Rattle.oa_coerce.specs.declared.rule.Rule.{Rule}
use Rattle.oa_coerce.specs.declared.rule.Rule.TheVariants.{Unchanged, Zero, Nearest, Exact, ToTruth, NoRule}

-- The test whether two types are the same.
pub are_same : (t u : VarType) → same_type t u ≡ true → t ≡ u
are_same t u e = same_true var_type tt t u e

pub tests_same : (t u : VarType) → t ≡ u → same_type t u ≡ true
tests_same t u e = true_same var_type t u e

-- A property that each rule has if its own test passes holds for the rule that applies.
pub by_rule : (P : Rule → Type 0) (from to : VarType) →
    ((same_type to types.Variant || same_type from to) ≡ true → P Unchanged) →
    (same_type from types.Empty ≡ true → P Zero) →
    (counts_units to ≡ true → P Nearest) →
    (counts_units from ≡ true → to ≡ types.Decimal → P Exact) →
    (is_signed_integer from ≡ true → to ≡ types.Bool → P ToTruth) →
    P NoRule → P (rule_for from to)
by_rule P from to unchanged zero nearest exact truth none =
    cond_both (same_type to types.Variant || same_type from to) _ _ P unchanged (λ _.
    cond_both (same_type from types.Empty) _ _ P zero (λ _.
    cond_both (is_number_type from && counts_units to) _ _ P (λ both. nearest (and_parts (is_number_type from) (counts_units to) both).1) (λ _.
    cond_both (same_type from types.Bool && is_signed_integer to) _ _ P (λ both.
    let signed = (and_parts (same_type from types.Bool) (is_signed_integer to) both).1 in
    nearest (or_left (is_integer_type to) _ (and_parts (is_integer_type to) (is_signed_type to) signed).0)) (λ _.
    cond_both (counts_units from && same_type to types.Decimal) _ _ P (λ both.
    let h = and_parts (counts_units from) (same_type to types.Decimal) both in exact h.0 (are_same to types.Decimal h.1)) (λ _.
    cond_both (is_signed_integer from && same_type to types.Bool) _ _ P (λ both.
    let h = and_parts (is_signed_integer from) (same_type to types.Bool) both in truth h.0 (are_same to types.Bool h.1)) (λ _. none))))))

-- a scalar of an integer type, or of CY, is its type and its number
pub made_back : (s : Scalar) → counts_units (type_of s) ≡ true → of_count (type_of s) (key_number s) ≡ s
made_back scalars.Null u = absurd (false≢true u)
made_back (scalars.Bool b) u = absurd (false≢true u)
made_back (scalars.Error n) u = absurd (false≢true u)
made_back (scalars.Bstr t) u = absurd (false≢true u)
made_back (scalars.Decimal d) u = absurd (false≢true u)
made_back s u = refl

pub same_scalar : (a b : Scalar) (to : VarType) → counts_units to ≡ true → type_of a ≡ to → type_of b ≡ to → key_number a ≡ key_number b
    → a ≡ b
same_scalar a b to u of_a of_b n =
    let t = ap of_count (of_a ∙ sym of_b) in
    sym (made_back a (ap counts_units of_a ∙ u)) ∙ ((λ i. t i (n i)) ∙ made_back b (ap counts_units of_b ∙ u))
