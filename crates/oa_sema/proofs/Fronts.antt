-- The first place that passes a test, by a search from the front.
use Rattle.std.proofs.Common.{◌≡◌, ◌+◌, ◌≤◌, ◌<◌, ℕ, zero, suc, min, Bool, true, false, cond, not, List, [], ◌∷◌, length, take, position, None, Some, refl}
use Rattle.std.proofs.Common.{sym, ap, ◌∙◌, arith, nat_lt, get_or}
use Rattle.std.proofs.lemmas.Bool.Decides.{nat_tests}
use Rattle.std.specs.List.{position_or_len}

module _ {X : Type 0} (p : X → Bool) where
  here : (xs : List X) (n : ℕ) (x : X) → n < length xs → x ≡ get_or xs n x → p x ≡ true → n ≤ position_or_len p xs → position_or_len p xs ≡ n
  here [] n x below e passes so_far = absurd (omega (arith, below))
  here (y ∷ ys) zero x below e passes so_far = let it : p y ≡ true = sym (ap p e) ∙ passes in rw it refl
  here (y ∷ ys) (suc n) x below e passes so_far = by (p y) (λ h. here ys n x (omega (arith, below)) e passes h) so_far
    where
      by : (b : Bool) → (n ≤ position_or_len p ys → position_or_len p ys ≡ n) → suc n ≤ cond (not b) (1 + position_or_len p ys) 0
          → cond (not b) (1 + position_or_len p ys) 0 ≡ suc n
      by true rest h = absurd (omega (arith, h))
      by false rest h = let same = rest (omega (arith, h)) in omega (arith, same)

  -- it is the place that is looked at
  pub found_here : (xs : List X) (n : ℕ) (x : X) → n < length xs → x ≡ get_or xs n x → p x ≡ true → n ≤ position_or_len p xs → position p xs ≡ Some n
  found_here xs n x below e passes so_far =
      let at = here xs n x below e passes so_far in
      let test : nat_lt n (length xs) ≡ true = grind (arith, nat_tests, below) in
      rw (at, test) refl

  -- it comes later
  pub comes_later : (xs : List X) (n : ℕ) (x : X) → n < length xs → x ≡ get_or xs n x → p x ≡ false → n ≤ position_or_len p xs → n + 1 ≤ position_or_len p xs
  comes_later [] n x below e fails so_far = absurd (omega (arith, below))
  comes_later (y ∷ ys) zero x below e fails so_far = let it : p y ≡ false = sym (ap p e) ∙ fails in rw it (omega arith)
  comes_later (y ∷ ys) (suc n) x below e fails so_far = by (p y) (λ h. comes_later ys n x (omega (arith, below)) e fails h) so_far
    where
      by : (b : Bool) → (n ≤ position_or_len p ys → n + 1 ≤ position_or_len p ys) → suc n ≤ cond (not b) (1 + position_or_len p ys) 0
          → suc n + 1 ≤ cond (not b) (1 + position_or_len p ys) 0
      by true rest h = absurd (omega (arith, h))
      by false rest h = let later = rest (omega (arith, h)) in omega (arith, later)

  passed_over : (xs : List X) (n : ℕ) → min (length xs) n ≤ position_or_len p xs → length (take n xs) ≤ position_or_len p (take n xs)
  passed_over xs zero h = omega arith
  passed_over [] (suc n) h = omega arith
  passed_over (y ∷ ys) (suc n) h = by (p y) (λ g. passed_over ys n g) h
    where
      by : (b : Bool) → (min (length ys) n ≤ position_or_len p ys → length (take n ys) ≤ position_or_len p (take n ys))
          → min (suc (length ys)) (suc n) ≤ cond (not b) (1 + position_or_len p ys) 0
          → suc (length (take n ys)) ≤ cond (not b) (1 + position_or_len p (take n ys)) 0
      by true rest h = absurd (omega (arith, h))
      by false rest h = let it = rest (omega (arith, h)) in omega (arith, it)

  -- it is none of those that were looked at
  pub not_in_front : (xs : List X) (n : ℕ) → min (length xs) n ≤ position_or_len p xs → position p (take n xs) ≡ None
  not_in_front xs n so_far =
      let over = passed_over xs n so_far in
      let test : nat_lt (position_or_len p (take n xs)) (length (take n xs)) ≡ false = grind (arith, nat_tests, over) in
      rw test refl
