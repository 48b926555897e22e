-- Searches in lists by keys.
use Rattle.std.proofs.Common.{◌≡◌, ◌<◌, ◌+◌, ℕ, zero, suc, Bool, true, false, cond, not, ◌||◌, List, [], ◌∷◌}
use Rattle.std.proofs.Common.{◌++◌, length, map, find, position, slice_get, Option, None, Some, refl, sym}
use Rattle.std.proofs.Common.{ap, ◌∙◌, true≢false, if◌then◌else◌, nat_lt, arith, append_assoc, length-append}
use Rattle.std.proofs.lemmas.List.{append-nil, map-append}
use Rattle.std.proofs.lemmas.Bool.Decides.{nat_tests}
use Rattle.std.proofs.lemmas.List.Folds.{find_at}
use Rattle.std.proofs.lemmas.Option.{slice_get_past}
use Rattle.std.specs.List.{list_any, position_or_len, prefix_len}
use Rattle.std.specs.Option.{option_map, option_and_then}
use Rattle.indexmap.specs.IndexSet.{insert_key}
use Rattle.oa_sema.specs.Repeats.{repeat_at}
use Rattle.oa_sema.specs.promise.Repeats.{first_repeat}

module _ {K : Type 0} (eq : K → K → Bool) where
  unrepeated : (b : Bool) (o : Option ℕ) → (if b then Some zero else option_map (λ n. suc n) o) ≡ None → (b ≡ false) × (o ≡ None)
  unrepeated true o none = absurd (cc)
  unrepeated false None none = (refl, refl)
  unrepeated false (Some n) none = absurd (cc)

  -- A key that equals one of those before it or of xs, if xs has no repeated key.
  pub repeat_here : (before xs : List K) (y : K) (zs : List K) → repeat_at eq before xs ≡ None → list_any (eq y) (before ++ xs) ≡ true
      → repeat_at eq before (xs ++ y ∷ zs) ≡ Some (length xs)
  unfolding repeat_at
  repeat_here before [] y zs none some =
      let h : list_any (eq y) before ≡ true = simp append-nil at some in
      rw h refl
  repeat_here before (x ∷ xs) y zs none some =
      let s = unrepeated (list_any (eq x) before) (repeat_at eq (before ++ x ∷ []) xs) none in
      rw s.0 (ap (option_map (λ n. suc n)) (repeat_here (before ++ x ∷ []) xs y zs s.1 (rw append_assoc some)))

  -- one that is not
  pub repeat_later : (before xs : List K) (y : K) → repeat_at eq before xs ≡ None → list_any (eq y) (before ++ xs) ≡ false
      → repeat_at eq before (xs ++ y ∷ []) ≡ None
  unfolding repeat_at
  repeat_later before [] y none some =
      let h : list_any (eq y) before ≡ false = simp append-nil at some in
      rw h refl
  repeat_later before (x ∷ xs) y none some =
      let s = unrepeated (list_any (eq x) before) (repeat_at eq (before ++ x ∷ []) xs) none in
      rw s.0 (ap (option_map (λ n. suc n)) (repeat_later (before ++ x ∷ []) xs y s.1 (rw append_assoc some)))

-- the first repetition by its place
module _ {X K : Type 0} (eq : K → K → Bool) (key : X → K) where
  placed : (b : Bool) (x : X) (xs : List X) (f : Option X) (o : Option ℕ) → f ≡ option_and_then (slice_get xs) o
      → (if b then Some x else f) ≡ option_and_then (slice_get (x ∷ xs)) (if b then Some zero else option_map (λ n. suc n) o)
  placed true x xs f o h = refl
  placed false x xs f None h = h
  placed false x xs f (Some n) h = h

  pub repeat_by_place : (before : List K) (xs : List X) → first_repeat eq key before xs ≡ option_and_then (slice_get xs) (repeat_at eq before (map key xs))
  unfolding repeat_at first_repeat
  repeat_by_place before [] = refl
  repeat_by_place before (x ∷ xs) = placed (list_any (eq (key x)) before) x xs _ _ (repeat_by_place (before ++ key x ∷ []) xs)

-- keys that are seen through f
module _ {A B : Type 0} (f : A → B) where
  pub list_any-map : (p : B → Bool) (xs : List A) → list_any p (map f xs) ≡ list_any (λ x. p (f x)) xs
  list_any-map p [] = refl
  list_any-map p (x ∷ xs) = ap (λ b. p (f x) || b) (list_any-map p xs)

  pub place-map : (p : B → Bool) (xs : List A) → prefix_len p (map f xs) ≡ prefix_len (λ x. p (f x)) xs
  place-map p [] = refl
  place-map p (x ∷ xs) = ap (λ n. cond (p (f x)) (1 + n) 0) (place-map p xs)

  pub length-mapped : (xs : List A) → length (map f xs) ≡ length xs
  length-mapped [] = refl
  length-mapped (x ∷ xs) = ap (λ n. suc n) (length-mapped xs)

  pub position-map : (p : B → Bool) (xs : List A) → position p (map f xs) ≡ position (λ x. p (f x)) xs
  position-map p xs = rw (place-map (λ x. not (p x)) xs, length-mapped xs) refl

  pub insert_key-map : (e : B → B → Bool) (k : A) (ks : List A) → map f (insert_key (λ a b. e (f a) (f b)) ks k) ≡ insert_key e (map f ks) (f k)
  insert_key-map e k ks = rw list_any-map (by (list_any (λ x. e (f k) (f x)) ks))
    where
      by : (b : Bool) → map f (if b then ks else ks ++ k ∷ []) ≡ (if b then map f ks else map f ks ++ f k ∷ [])
      by true = refl
      by false = map-append f ks (k ∷ [])

  pub repeat_at-map : (e : B → B → Bool) (before ks : List A) → repeat_at e (map f before) (map f ks) ≡ repeat_at (λ a b. e (f a) (f b)) before ks
  unfolding repeat_at
  repeat_at-map e before [] = refl
  repeat_at-map e before (k ∷ ks) =
      let rest = repeat_at-map e (before ++ k ∷ []) ks in
      let r : repeat_at e (map f before ++ f k ∷ []) (map f ks) ≡ repeat_at (λ a b. e (f a) (f b)) (before ++ k ∷ []) ks = rw map-append at rest in
      rw (list_any-map (e (f k)) before, r) refl

-- The entry at the first place that passes a test.
module _ {X : Type 0} (p : X → Bool) where
  pub position_finds : (xs : List X) → option_and_then (slice_get xs) (position p xs) ≡ find p xs
  position_finds xs = by (nat_lt (position_or_len p xs) (length xs)) refl
    where
      by : (b : Bool) → nat_lt (position_or_len p xs) (length xs) ≡ b → option_and_then (slice_get xs) (cond b (Some (position_or_len p xs)) None) ≡ find p xs
      by true h = sym (find_at p xs)
      by false h = sym (find_at p xs ∙ slice_get_past xs (position_or_len p xs) (grind (arith, nat_tests)))

-- a turn of the search
module _ {K : Type 0} (eq : K → K → Bool) where
  pub turn_finds : (keys seen : List K) (y : K) (rest : List K) (place : ℕ) → place ≡ length seen → keys ≡ seen ++ y ∷ rest → repeat_at eq [] seen ≡ None
      → list_any (eq y) seen ≡ true → (repeat_at eq [] keys ≡ Some place) × (place < length keys)
  turn_finds keys seen y rest place at e none some =
      (rw (e, at) (repeat_here eq [] seen y rest none some), omega (arith, at, ap length e, length-append seen (y ∷ rest)))

  pub turn_goes_on : (seen : List K) (y : K) → repeat_at eq [] seen ≡ None → list_any (eq y) seen ≡ false → (insert_key eq seen y ≡ seen ++ y ∷ [])
      × (repeat_at eq [] (seen ++ y ∷ []) ≡ None)
  turn_goes_on seen y none some = (rw some refl, repeat_later eq [] seen y none some)

pub not_true : (a b : Bool) → a ≡ not b → a ≡ false → b ≡ true
not_true a true e h = refl
not_true a false e h = absurd (true≢false (sym e ∙ h))

pub not_false : (a b : Bool) → a ≡ not b → a ≡ true → b ≡ false
not_false a true e h = absurd (true≢false (sym h ∙ e))
not_false a false e h = refl
