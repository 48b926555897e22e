-- If the names and the number of the arguments are accepted, the search for the DISPID of each argument finds this
-- argument.
use Rattle.std.proofs.Common.{◌≡◌, ◌<◌, ◌≤◌, ◌+◌, ◌-◌, ℕ, zero, suc, ℤ, pos, negsuc, Bool, true, false, not}
use Rattle.std.proofs.Common.{◌||◌, cond, nat_lt, if◌then◌else◌, List, [], ◌∷◌, length, get_or, Option}
use Rattle.std.proofs.Common.{Some, None, Result, Ok, Err, refl, sym, ap, subst, ◌∙◌, arith, true≢false}
use Rattle.std.specs.List.{list_any, position_from}
use Rattle.std.specs.Ordering.{int_eq}
use Rattle.std.proofs.lemmas.Option.{none-some}
use Rattle.std.proofs.lemmas.List.{get_or_past}
use Rattle.std.proofs.lemmas.Bool.{false_from_ne_true, lt-ltb, ltb-false}
use Rattle.std.proofs.lemmas.Bool.Decides.{Decides-int_eq, nat_tests}
use Rattle.oa_model.specs.promise.Codes.{e_invalidarg, disp_e_badparamcount, disp_e_paramnotfound}
use Rattle.oa_model.specs.declared.hresult.HResult.{HResult}
use Rattle.oa_idl.specs.declared.parts.Parameter.{Parameter}
use Rattle.oa_typelib.specs.declared.access.Kind.{Kind}
use Rattle.oa_bind.specs.declared.fault.BindFault.{BindFault}
use Rattle.oa_bind.specs.promise.Given.{Given, by_position, argument_index, is_parameter}
use Rattle.oa_bind.specs.Given.{IsGiven, dispid_of_argument}
use Rattle.oa_bind.specs.promise.Names.{is_consistent, most, names_none, names_well, repeats, well_named}
use Rattle.oa_bind.specs.promise.Refusals.{◌>>=◌, bind_fault_if, unless_at}

-- The rest after a check that has not refused.
no_answer : {A : Type 0} (e : BindFault) (x : A) → Err e ≡ Ok x → ⊥
no_answer e x h = absurd cc

passed : {A : Type 0} (code : HResult) (bad : Bool) (next : Unit {0} → Result A BindFault) (x : A) → bind_fault_if code bad >>= next ≡ Ok x → (bad ≡ false)
    × (next tt ≡ Ok x)
passed code true next x h = absurd (no_answer _ x h)
passed code false next x h = (refl, h)

found_none : (code : HResult) (o : Option ℕ) → unless_at code o ≡ Ok tt → o ≡ None
found_none code None h = refl
found_none code (Some i) h = absurd (no_answer _ tt h)

both_false : (a b : Bool) → (a || b) ≡ false → (a ≡ false) × (b ≡ false)
both_false true b h = absurd (true≢false h)
both_false false b h = (refl, h)

consistent_is : (kind : Kind) (named : List ℤ) (count : ℕ) → not (is_consistent kind named count) ≡ false → (length named ≤ count) × (repeats named ≡ false)
consistent_is kind named count h = by (nat_lt count (length named)) (repeats named) refl refl h
  where
    by : (a b : Bool) → nat_lt count (length named) ≡ a → repeats named ≡ b → not (if a || b then false else names_well kind named) ≡ false
        → (length named ≤ count) × (repeats named ≡ false)
    by true b p q e = absurd (true≢false e)
    by false true p q e = absurd (true≢false e)
    by false false p q e = (ltb-false count (length named) p, q)

-- If no name occurs twice, each is found at its place.
differ_both_ways : (x y : ℤ) → int_eq x y ≡ false → int_eq y x ≡ false
differ_both_ways x y h = false_from_ne_true (int_eq y x) (λ e. true≢false (sym ((Decides-int_eq x y).1 (sym ((Decides-int_eq y x).0 e))) ∙ h))

none_passes : {X : Type 0} (test : X → Bool) (xs : List X) (k : ℕ) (blank : X) → list_any test xs ≡ false → k < length xs → test (get_or xs k blank) ≡ false
none_passes test [] k blank none within = absurd (omega (arith, within))
none_passes test (x ∷ xs) zero blank none within = (both_false (test x) (list_any test xs) none).0
none_passes test (x ∷ xs) (suc k) blank none within = none_passes test xs k blank (both_false (test x) (list_any test xs) none).1 (omega (arith, within))

found_there : (first : ℕ) (named : List ℤ) (j : ℕ) (blank : ℤ) → repeats named ≡ false → j < length named
    → position_from (λ n. int_eq n (get_or named j blank)) first named ≡ Some (first + j)
found_there first [] j blank once within = absurd (omega (arith, within))
found_there first (x ∷ xs) zero blank once within = rw ((Decides-int_eq x x).1 refl) (ap Some (omega arith))
found_there first (x ∷ xs) (suc j) blank once within =
    let h = both_false (list_any (λ id. int_eq id x) xs) (repeats xs) once in
    let less : j < length xs = omega (arith, within) in
    let apart = differ_both_ways (get_or xs j blank) x (none_passes (λ id. int_eq id x) xs j blank h.0 less) in
    rw apart (found_there (first + 1) xs j blank h.1 less ∙ ap Some (omega arith))

-- If no name is that of a parameter that is given by position, no name finds an argument by position.
never_found : {X : Type 0} (test : X → Bool) (first : ℕ) (xs : List X) (k : ℕ) (blank : X) → position_from test first xs ≡ None → k < length xs
    → test (get_or xs k blank) ≡ false
never_found test first [] k blank none within = absurd (omega (arith, within))
never_found {X} test first (x ∷ xs) k blank none within = by (test x) refl none k within (λ h j less. never_found test (first + 1) xs j blank h less)
  where
    by : (b : Bool) → test x ≡ b → cond b (Some first) (position_from test (first + 1) xs) ≡ None → (j : ℕ) → j < length (x ∷ xs)
        → (position_from test (first + 1) xs ≡ None → (i : ℕ) → i < length xs → test (get_or xs i blank) ≡ false) → test (get_or (x ∷ xs) j blank) ≡ false
    by true is h j less more = absurd (none-some first (sym h))
    by false is h zero less more = is
    by false is h (suc j) less more = more h j (omega (arith, less))

not_by_place : (positions parameters : ℕ) (id : ℤ) → names_none positions parameters id ≡ false → is_parameter positions id ≡ false
not_by_place positions parameters (negsuc n) h = refl
not_by_place positions parameters (pos n) h = (both_false (not (nat_lt n parameters)) (nat_lt n positions) h).1

by_name : (named : List ℤ) (count j : ℕ) (parameters : ℕ) (blank : ℤ) → repeats named ≡ false
    → position_from (names_none (by_position named count) parameters) 0 named ≡ None → j < length named
    → argument_index named count (get_or named j blank) ≡ Some j
unfolding argument_index
by_name named count j parameters blank once known within =
    let off = not_by_place (by_position named count) parameters (get_or named j blank)
    (never_found (names_none (by_position named count) parameters) 0 named j blank known within) in
    let there : position_from (λ n. int_eq n (get_or named j blank)) 0 named ≡ Some j = found_there 0 named j blank once within ∙ ap Some (omega arith) in
    rw (off, there) refl

by_turn : (named : List ℤ) (count j : ℕ) → length named ≤ j → j < count → argument_index named count (pos (count - 1 - j)) ≡ Some j
unfolding argument_index
by_turn named count j past within =
    let on : nat_lt (count - 1 - j) (count - length named) ≡ true = lt-ltb (count - 1 - j) (count - length named) (omega (arith, past, within)) in
    let back : count - 1 - (count - 1 - j) ≡ j = omega (arith, within) in
    rw (on, back) refl

counts : (parameters : List Parameter) (kind : Kind) (call : Given) (j : ℕ) → well_named parameters kind call.named (length call.arguments) ≡ Ok tt
    → j < length call.arguments
    → argument_index call.named (length call.arguments) (dispid_of_argument call.named (length call.arguments) j) ≡ Some j
unfolding well_named
counts parameters kind call j h within =
    let count = length call.arguments in
    let one = passed e_invalidarg (not (is_consistent kind call.named count)) _ tt h in
    let two = passed disp_e_badparamcount (nat_lt (most kind parameters) count) _ tt one.1 in
    let known = found_none disp_e_paramnotfound (position_from (names_none (by_position call.named count) (length parameters)) 0 call.named) two.1 in
    let fine = consistent_is kind call.named count one.0 in
    by (nat_lt j (length call.named)) refl fine.1 known
  where
    by : (b : Bool) → nat_lt j (length call.named) ≡ b → repeats call.named ≡ false
        → position_from (names_none (by_position call.named (length call.arguments)) (length parameters)) 0 call.named ≡ None
        → argument_index call.named (length call.arguments) (dispid_of_argument call.named (length call.arguments) j) ≡ Some j
    by true is once known = by_name call.named (length call.arguments) j (length parameters) _ once known (grind (arith, nat_tests, is))
    by false is once known =
        let past : length call.named ≤ j = ltb-false j (length call.named) is in
        rw (get_or_past call.named j (pos (length call.arguments - 1 - j)) past) (by_turn call.named (length call.arguments) j past within)

pub argument_counts : (parameters : List Parameter) (kind : Kind) (call : Given) (i : ℕ) (id : ℤ)
    → well_named parameters kind call.named (length call.arguments) ≡ Ok tt → IsGiven call i id
    → argument_index call.named (length call.arguments) id ≡ Some i
argument_counts parameters kind call i id fine is =
    subst (λ d. argument_index call.named (length call.arguments) d ≡ Some i) is.named (counts parameters kind call i fine is.there)
