-- Rules for two declarations of an interface.
use Rattle.std.proofs.Common.{◌≡◌, ◌<◌, ◌+◌, ℕ, zero, suc, Bool, true, false, not, ◌&&◌, List, [], ◌∷◌, length, take}
use Rattle.std.proofs.Common.{get_or, Option, None, Some, refl, sym, ap, ◌∙◌, arith, true≢false, if◌then◌else◌}
use Rattle.std.proofs.lemmas.List.{take_more, get_or-take, get_or_default}
use Rattle.std.proofs.lemmas.Option.{slice_get_read}
use Rattle.std.proofs.lemmas.Cmp.{on_equiv, and_equiv, lists_equiv, int_eq_equiv, nat_eq_equiv, nat_list_eq_equiv}
use Rattle.std.specs.Cmp.{IsEquivalence, bool_eq_equiv}
use Rattle.std.specs.Cmp.Lexicographic.{on_texts_equal, options_equiv}
use Rattle.std.specs.List.{list_any}
use Rattle.oa_model.specs.promise.Folding.{folded_name}
use Rattle.oa_model.specs.promise.Types.{vt_of_value}
use Rattle.oa_idl.specs.declared.parts.Literal.{Literal}
use Rattle.oa_idl.specs.declared.parts.Literal.TheVariants as literals
use Rattle.oa_idl.specs.declared.parts.Parameter.{Parameter}
use Rattle.oa_sema.specs.promise.Agreement.{same_value_type, same_literal, is_optional, same_parameter, agree}
use Rattle.oa_sema.specs.promise.Breaches.{broken_by}
use Rattle.oa_sema.specs.promise.DeclarationValues.{DeclarationValue}
use Rattle.oa_sema.specs.promise.Declarations.{own_parameters, type_of_value}
use Rattle.oa_sema.specs.promise.Libraries.{same_name}
use Rattle.oa_sema.specs.MemberChecks.{alike, suits, breaks, broken_with, broken_at}
use Rattle.oa_sema.specs.Repeats.{last_place, places_before}
use Rattle.oa_sema.specs.declared.member_checks.Rule.{Rule}
use Rattle.oa_sema.specs.declared.member_checks.Rule.TheVariants as rules
use Rattle.oa_sema.proofs.Walks.{Keeps_it, keeps_more, told_by_last, none_passes, last_within, place_at, length-places}

-- ---- Comparisons of declarations are symmetric and transitive.

literal_congr : (x y z : Literal) → same_literal x y ≡ true → same_literal x z ≡ same_literal y z
literal_congr (literals.Number a) (literals.Number b) (literals.Number c) e = int_eq_equiv.congr a b c e
literal_congr (literals.Number a) (literals.Number b) (literals.Text c) e = refl
literal_congr (literals.Number a) (literals.Number b) (literals.Bool c) e = refl
literal_congr (literals.Text a) (literals.Text b) (literals.Number c) e = refl
literal_congr (literals.Text a) (literals.Text b) (literals.Text c) e = nat_list_eq_equiv.congr a b c e
literal_congr (literals.Text a) (literals.Text b) (literals.Bool c) e = refl
literal_congr (literals.Bool a) (literals.Bool b) (literals.Number c) e = refl
literal_congr (literals.Bool a) (literals.Bool b) (literals.Text c) e = refl
literal_congr (literals.Bool a) (literals.Bool b) (literals.Bool c) e = bool_eq_equiv.congr a b c e
literal_congr (literals.Number a) (literals.Text b) z e = absurd (true≢false (sym e))
literal_congr (literals.Number a) (literals.Bool b) z e = absurd (true≢false (sym e))
literal_congr (literals.Text a) (literals.Number b) z e = absurd (true≢false (sym e))
literal_congr (literals.Text a) (literals.Bool b) z e = absurd (true≢false (sym e))
literal_congr (literals.Bool a) (literals.Number b) z e = absurd (true≢false (sym e))
literal_congr (literals.Bool a) (literals.Text b) z e = absurd (true≢false (sym e))

literal_refl : (x : Literal) → same_literal x x ≡ true
literal_refl (literals.Number a) = int_eq_equiv.refl a
literal_refl (literals.Text a) = nat_list_eq_equiv.refl a
literal_refl (literals.Bool a) = bool_eq_equiv.refl a

literal_symm : (x y : Literal) → same_literal x y ≡ same_literal y x
literal_symm (literals.Number a) (literals.Number b) = int_eq_equiv.symm a b
literal_symm (literals.Number a) (literals.Text b) = refl
literal_symm (literals.Number a) (literals.Bool b) = refl
literal_symm (literals.Text a) (literals.Number b) = refl
literal_symm (literals.Text a) (literals.Text b) = nat_list_eq_equiv.symm a b
literal_symm (literals.Text a) (literals.Bool b) = refl
literal_symm (literals.Bool a) (literals.Number b) = refl
literal_symm (literals.Bool a) (literals.Text b) = refl
literal_symm (literals.Bool a) (literals.Bool b) = bool_eq_equiv.symm a b

literals_equiv : IsEquivalence same_literal
literals_equiv = record { refl = literal_refl; symm = literal_symm; congr = literal_congr }

types_equiv : IsEquivalence same_value_type
types_equiv = on_equiv vt_of_value nat_eq_equiv

parameters_equiv : IsEquivalence same_parameter
unfolding same_parameter
parameters_equiv =
    and_equiv (and_equiv (and_equiv (and_equiv
    (on_texts_equal (λ (p : Parameter). folded_name p.name))
    (on_equiv (λ (p : Parameter). p.value_type) types_equiv))
    (on_equiv (λ (p : Parameter). p.is_in) bool_eq_equiv))
    (on_equiv is_optional bool_eq_equiv))
    (on_equiv (λ (p : Parameter). p.default) (options_equiv literals_equiv))

pub agree_equiv : IsEquivalence agree
unfolding agree
agree_equiv =
    and_equiv (and_equiv
    (on_equiv (λ (d : DeclarationValue). d.id) int_eq_equiv)
    (on_equiv type_of_value (options_equiv types_equiv)))
    (on_equiv own_parameters (lists_equiv parameters_equiv))

names_equiv : IsEquivalence (λ (d e : DeclarationValue). same_name d.name e.name)
names_equiv = on_texts_equal (λ (d : DeclarationValue). folded_name d.name)

alike_equiv : (rule : Rule) → IsEquivalence (alike rule)
alike_equiv rules.OneMember = on_equiv (λ (d : DeclarationValue). d.id) int_eq_equiv
alike_equiv rules.Agreement = names_equiv

suits_equiv : (rule : Rule) → IsEquivalence (suits rule)
suits_equiv rules.OneMember = names_equiv
suits_equiv rules.Agreement = agree_equiv

-- ---- a turn of the walk, which is at i

length_before : {X : Type 0} (xs : List X) (i n : ℕ) → n < length (take i xs) → n < i
length_before [] zero n h = absurd (omega (arith, h))
length_before [] (suc i) n h = absurd (omega (arith, h))
length_before (x ∷ xs) zero n h = absurd (omega (arith, h))
length_before (x ∷ xs) (suc i) zero h = omega arith
length_before (x ∷ xs) (suc i) (suc n) h = let r = length_before xs i n (omega (arith, h)) in omega (arith, r)

weaker : (rule : Rule) (d x : DeclarationValue) → alike rule x d ≡ false → breaks rule d x ≡ false
weaker rule d x apart = ap (λ b. b && not (suits rule d x)) ((alike_equiv rule).symm d x ∙ apart)

module _ (rule : Rule) (all : List DeclarationValue) (before : List (Option ℕ)) (i : ℕ) (d : DeclarationValue)
    (are : before ≡ places_before (alike rule) [] all) (here : i < length all) (is : d ≡ get_or all i d) where
  place_here : (o : Option ℕ) → o ≡ get_or before i o → o ≡ last_place (λ x. alike rule x d) (take i all)
  place_here o at = at ∙ ap (λ os. get_or os i o) are ∙ place_at (alike rule) [] all i d o here is

  pub place_within : i < length before
  place_within = omega (arith, here, ap length are ∙ length-places (alike rule) [] all)

  other_within : (n : ℕ) → Some n ≡ get_or before i (Some n) → n < i
  other_within n at = length_before all i n (last_within (λ x. alike rule x d) (take i all) n (sym (place_here (Some n) at)))

  pub told : Keeps_it (alike rule) (suits rule) (take i all) → (o : Option ℕ) → o ≡ get_or before i o → broken_at rule all d o ≡ list_any (breaks rule d)
      (take i all)
  told kept None at = sym (none_passes (λ x. alike rule x d) (breaks rule d) (take i all) (λ x. weaker rule d x) (sym (place_here None at)))
  told kept (Some n) at =
      let within = other_within n at in
      let in_all : n < length all = omega (arith, within, here) in
      let e = get_or all n d in
      let was = get_or_default all n d e in_all in
      ap (broken_with rule d) (slice_get_read all (length all) n e refl in_all was)
      ∙ sym (told_by_last (alike rule) (suits rule) (alike_equiv rule) (suits_equiv rule) d (take i all) n e kept (sym (place_here (Some n) at))
      (was ∙ sym (get_or-take i all n e within)))

  unbroken : (b : Bool) → (if b then Some d.name else None) ≡ None → b ≡ false
  unbroken true e = absurd (cc)
  unbroken false e = refl

  read_here : (e : Option ℕ) → get_or before i e ≡ get_or before i (get_or before i e)
  read_here e = get_or_default before i e (get_or before i e) place_within

  pub broken_here : Keeps_it (alike rule) (suits rule) (take i all) → (e : Option ℕ) (b : Bool) → b ≡ broken_at rule all d (get_or before i e) → b ≡ true
      → broken_by (breaks rule) (take i all) d ≡ Some d.name
  broken_here kept e b is_so there = rw (sym (told kept (get_or before i e) (read_here e)) ∙ sym is_so ∙ there) refl

  pub unbroken_here : Keeps_it (alike rule) (suits rule) (take i all) → (e : Option ℕ) (b : Bool) → b ≡ broken_at rule all d (get_or before i e) → b ≡ false
      → broken_by (breaks rule) (take i all) d ≡ None
  unbroken_here kept e b is_so none = rw (sym (told kept (get_or before i e) (read_here e)) ∙ sym is_so ∙ none) refl

  pub kept_here : Keeps_it (alike rule) (suits rule) (take i all) → broken_by (breaks rule) (take i all) d ≡ None
      → Keeps_it (alike rule) (suits rule) (take (i + 1) all)
  kept_here kept none =
      let t = take_more all i d here in
      rw (t, ← is) (keeps_more (alike rule) (suits rule) (take i all) d kept (unbroken (list_any (breaks rule d) (take i all)) none))
