-- Loops over bytes, and the definitions that go by the list.
use Rattle.std.proofs.Common.{◌≡◌, ℕ, suc, ◌+◌, ◌<◌, ◌≤◌, Bool, true, false, List, ◌∷◌, length, drop, get_or, Option, Some, None, refl, sym}
use Rattle.std.proofs.Common.{ap, ◌∙◌, arith}
use Rattle.std.proofs.lemmas.List.{drop_more, drop_all}
use Rattle.oa_tokens.specs.declared.scan.Class.{Class}
use Rattle.oa_tokens.specs.declared.scan.Close.{Close}
use Rattle.oa_tokens.specs.promise.Bytes.{is_in, run, end_from, closes, marks, incremented}

pub run_goes_on : (class : Class) (bs : List ℕ) (n total : ℕ) → n < length bs → is_in class (get_or bs n 0) ≡ true
    → n + run (is_in class) (drop n bs) ≡ total → n + 1 + run (is_in class) (drop (n + 1) bs) ≡ total
unfolding run
run_goes_on class bs n total lt is so_far =
    let k : drop n bs ≡ get_or bs n 0 ∷ drop (n + 1) bs = drop_more bs n 0 lt in
    let one : run (is_in class) (drop n bs) ≡ suc (run (is_in class) (drop (n + 1) bs)) = rw (k, is) refl in
    omega (arith, one, so_far)

pub run_stops : (class : Class) (bs : List ℕ) (n total : ℕ) → n < length bs → is_in class (get_or bs n 0) ≡ false
    → n + run (is_in class) (drop n bs) ≡ total → n ≡ total
unfolding run
run_stops class bs n total lt is so_far =
    let k : drop n bs ≡ get_or bs n 0 ∷ drop (n + 1) bs = drop_more bs n 0 lt in
    let one : run (is_in class) (drop n bs) ≡ 0 = rw (k, is) refl in
    omega (arith, one, so_far)

pub run_ends : (class : Class) (bs : List ℕ) (n total : ℕ) → length bs ≤ n → n + run (is_in class) (drop n bs) ≡ total → n ≡ total
unfolding run
run_ends class bs n total le so_far =
    let one : run (is_in class) (drop n bs) ≡ 0 = rw (drop_all n bs le) refl in
    omega (arith, one, so_far)

abbrev pub plus : ℕ → Option ℕ → Option ℕ
plus n None = None
plus n (Some k) = Some (n + k)

plus_one : (n : ℕ) (o : Option ℕ) → plus n (incremented o) ≡ plus (n + 1) o
plus_one n None = refl
plus_one n (Some k) = ap (λ (m : ℕ). Some m) (omega arith)

pub end_goes_on : (close : Close) (marked : Bool) (bs : List ℕ) (n : ℕ) (total : Option ℕ) → n < length bs
    → closes close marked (get_or bs n 0) ≡ false
    → plus n (end_from close marked (drop n bs)) ≡ total
    → plus (n + 1) (end_from close (marks close marked (get_or bs n 0)) (drop (n + 1) bs)) ≡ total
unfolding end_from
end_goes_on close marked bs n total lt is so_far =
    let k : drop n bs ≡ get_or bs n 0 ∷ drop (n + 1) bs = drop_more bs n 0 lt in
    let one : end_from close marked (drop n bs) ≡ incremented (end_from close (marks close marked (get_or bs n 0)) (drop (n + 1) bs)) = rw (k, is) refl in
    sym (ap (plus n) one ∙ plus_one n (end_from close (marks close marked (get_or bs n 0)) (drop (n + 1) bs))) ∙ so_far

pub end_found : (close : Close) (marked : Bool) (bs : List ℕ) (n : ℕ) (total : Option ℕ) → n < length bs
    → closes close marked (get_or bs n 0) ≡ true
    → plus n (end_from close marked (drop n bs)) ≡ total → Some (n + 1) ≡ total
unfolding end_from
end_found close marked bs n total lt is so_far =
    let k : drop n bs ≡ get_or bs n 0 ∷ drop (n + 1) bs = drop_more bs n 0 lt in
    let one : end_from close marked (drop n bs) ≡ Some 1 = rw (k, is) refl in
    sym (ap (plus n) one) ∙ so_far

pub end_none : (close : Close) (marked : Bool) (bs : List ℕ) (n : ℕ) (total : Option ℕ) → length bs ≤ n
    → plus n (end_from close marked (drop n bs)) ≡ total → None ≡ total
unfolding end_from
end_none close marked bs n total le so_far =
    let one : end_from close marked (drop n bs) ≡ None = rw (drop_all n bs le) refl in
    sym (ap (plus n) one) ∙ so_far
