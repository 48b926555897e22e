-- The index that a DISPID finds.
use Rattle.std.proofs.Common.{◌≡◌, ◌<◌, ◌≤◌, ◌+◌, ◌-◌, ℕ, ℤ, pos, negsuc, Bool, true, false, cond, suc, List, [], ◌∷◌, length, Option}
use Rattle.std.proofs.Common.{Some, None, slice_get, get_or, refl, sym, ap, ◌∙◌, arith, unsigned_abs, if◌then◌else◌, true≢false}
use Rattle.std.specs.List.{position_from}
use Rattle.std.specs.Ordering.{int_eq}
use Rattle.std.proofs.lemmas.Option.{none-some, same_Some}
use Rattle.std.proofs.lemmas.List.{get_or_past}
use Rattle.std.proofs.lemmas.Bool.Decides.{Decides-int_eq, nat_tests}
use Rattle.oa_variant.specs.declared.variant.Variant.{Variant}
use Rattle.oa_bind.specs.promise.Given.{Given, argument_at, argument_for, by_position, argument_index, is_parameter}
use Rattle.oa_bind.specs.Given.{IsGiven, dispid_of_argument}

-- A DISPID that is found among names is at the place that is found.
stands_there : (named : List ℤ) (first i : ℕ) (id blank : ℤ) → position_from (λ n. int_eq n id) first named ≡ Some i
    → (first ≤ i) × (i < first + length named) × (get_or named (i - first) blank ≡ id)
stands_there [] first i id blank found = absurd (none-some i found)
stands_there (x ∷ xs) first i id blank found = by (int_eq x id) refl found (stands_there xs (first + 1) i id blank)
  where
    by : (b : Bool) → int_eq x id ≡ b → cond b (Some first) (position_from (λ n. int_eq n id) (first + 1) xs) ≡ Some i
        → (position_from (λ n. int_eq n id) (first + 1) xs ≡ Some i → (first + 1 ≤ i) × (i < first + 1 + length xs) × (get_or xs (i - (first + 1)) blank ≡ id))
        → (first ≤ i) × (i < first + length (x ∷ xs)) × (get_or (x ∷ xs) (i - first) blank ≡ id)
    by true is here more =
        let same = same_Some first i here in
        let zero : i - first ≡ 0 = omega (arith, same) in
        (omega (arith, same), omega (arith, same), rw zero ((Decides-int_eq x id).0 is))
    by false is later more =
        let rest = more later in
        let next : i - first ≡ suc (i - (first + 1)) = omega (arith, rest.0) in
        (omega (arith, rest.0), omega (arith, rest.1), rw next rest.2)

by_place_or_name : (named : List ℤ) (count i : ℕ) (id : ℤ) (b : Bool) → is_parameter (by_position named count) id ≡ b → length named ≤ count
    → (if b then Some (count - 1 - unsigned_abs id) else position_from (λ n. int_eq n id) 0 named) ≡ Some i → (i < count)
    × (dispid_of_argument named count i ≡ id)
by_place_or_name named count i id false is few found =
    let here = stands_there named 0 i id (pos (count - 1 - i)) found in
    let zero : i - 0 ≡ i = omega arith in
    (omega (arith, here.1, few), rw zero at here.2)
by_place_or_name named count i (negsuc p) true is few found = absurd (true≢false (sym is))
by_place_or_name named count i (pos p) true is few found =
    let same = same_Some (count - 1 - p) i found in
    let below : p < count - length named = grind (arith, nat_tests, is) in
    let past : length named ≤ i = omega (arith, same, below) in
    let back : count - 1 - i ≡ p = omega (arith, same, below) in
    (omega (arith, same, below), get_or_past named i (pos (count - 1 - i)) past ∙ ap pos back)

pub index_is : (named : List ℤ) (count i : ℕ) (id : ℤ) → length named ≤ count → argument_index named count id ≡ Some i → (i < count)
    × (dispid_of_argument named count i ≡ id)
unfolding argument_index
index_is named count i id few found = by_place_or_name named count i id (is_parameter (by_position named count) id) refl few found

-- the laws
pub is_given : (call : Given) (i : ℕ) (id : ℤ) → length call.named ≤ length call.arguments → argument_index call.named (length call.arguments) id ≡ Some i
    → IsGiven call i id
is_given call i id few found = let h = index_is call.named (length call.arguments) i id few found in record { there = h.0; named = h.1 }

pub alone : (call : Given) (i : ℕ) (id other : ℤ) → IsGiven call i id → IsGiven call i other → id ≡ other
alone call i id other one another = sym one.named ∙ another.named

-- one index is found by one DISPID
pub index_once : (named : List ℤ) (count i : ℕ) (id other : ℤ) → length named ≤ count → argument_index named count id ≡ Some i
    → argument_index named count other ≡ Some i → id ≡ other
index_once named count i id other few one another = sym (index_is named count i id few one).1 ∙ (index_is named count i other few another).1

-- The argument for a parameter is the same, if the one at its index is.
pub same_argument : (named : List ℤ) (old new : List Variant) (place : ℕ) → length new ≡ length old
    → ((i : ℕ) → argument_index named (length old) (pos place) ≡ Some i → slice_get new i ≡ slice_get old i)
    → argument_for (record { named = named; arguments = new }) place ≡ argument_for (record { named = named; arguments = old }) place
same_argument named old new place len same = rw len (by (argument_index named (length old) (pos place)) same)
  where
    by : (o : Option ℕ) → ((i : ℕ) → o ≡ Some i → slice_get new i ≡ slice_get old i) → argument_at o new ≡ argument_at o old
    by None same = refl
    by (Some i) same = rw (same i refl) refl
