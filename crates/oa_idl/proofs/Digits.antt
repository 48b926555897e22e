-- Digits as a loop reads them.
use Rattle.std.proofs.Common.{◌≡◌, ℕ, ◌+◌, ◌*◌, ◌^◌, ◌<◌, ◌≤◌, List, [], ◌∷◌, length, drop, get_or, Some, None, refl, sym, subst, ◌∙◌}
use Rattle.std.proofs.Common.{arith, rules}
use Rattle.std.proofs.lemmas.List.{drop_more, drop_all}
use Rattle.oa_idl.specs.promise.Words.{number_from, digit_of, below}

pub digits_go_on : (base value n : ℕ) (bs : List ℕ) (total : ℕ) → n < length bs → number_from base value (drop n bs) ≡ total
    → number_from base (base * value + digit_of (get_or bs n 0)) (drop (n + 1) bs) ≡ total
unfolding number_from
digits_go_on base value n bs total lt so_far =
    let k : drop n bs ≡ get_or bs n 0 ∷ drop (n + 1) bs = drop_more bs n 0 lt in
    let one : number_from base value (drop n bs) ≡ number_from base (base * value + digit_of (get_or bs n 0)) (drop (n + 1) bs) = rw k refl in
    sym one ∙ so_far

-- more digits make no smaller number
no_smaller : (base n : ℕ) (ds : List ℕ) → 0 < base → n ≤ number_from base n ds
unfolding number_from
no_smaller base n [] some = omega arith
no_smaller base n (d ∷ ds) some =
    let one = no_smaller base (base * n + digit_of d) ds some in
    let two : n ≤ base * n = grows base n some in
    omega (arith, one, two)
  where
    grows : (base n : ℕ) → 0 < base → n ≤ base * n
    grows base n some = search (rules, some)

pub digits_stop : (base value n : ℕ) (bs : List ℕ) (total : ℕ) → 0 < base → n < length bs
    → 2 ^ 96 ≤ base * value + digit_of (get_or bs n 0) → number_from base value (drop n bs) ≡ total → None ≡ below (2 ^ 96) total
digits_stop base value n bs total some lt large so_far =
    let whole = digits_go_on base value n bs total lt so_far in
    let more = no_smaller base (base * value + digit_of (get_or bs n 0)) (drop (n + 1) bs) some in
    let big : 2 ^ 96 ≤ total = omega (arith, more, large, whole) in
    sym (over_it total big)
  where
    over_it : (t : ℕ) → 2 ^ 96 ≤ t → below (2 ^ 96) t ≡ None
    over_it t h = search (rules, h)

pub digits_end : (base value n : ℕ) (bs : List ℕ) (total : ℕ) → length bs ≤ n → value < 2 ^ 96 → number_from base value (drop n bs) ≡ total
    → Some value ≡ below (2 ^ 96) total
unfolding number_from
digits_end base value n bs total le small so_far =
    let one : number_from base value (drop n bs) ≡ value = rw (drop_all n bs le) refl in
    let whole : value ≡ total = sym one ∙ so_far in
    subst (λ (t : ℕ). Some value ≡ below (2 ^ 96) t) whole (sym (under value small))
  where
    under : (t : ℕ) → t < 2 ^ 96 → below (2 ^ 96) t ≡ Some t
    under t h = search (rules, h)

-- The rules for the loop over digits.
pub ruleset digit_steps = (digits_go_on, digits_stop, digits_end)
