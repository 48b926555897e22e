-- The distinct keys of a list, with the places of each.
use Rattle.std.proofs.Common.{◌≡◌, ◌<◌, ◌+◌, ℕ, zero, suc, Bool, true, false, cond, not, ◌||◌, List, [], ◌∷◌}
use Rattle.std.proofs.Common.{◌++◌, length, map, fold, find, position, slice_get, Option, None, Some, is_some}
use Rattle.std.proofs.Common.{refl, sym, ap, ◌∙◌, true≢false, nat_lt, take, get_or, ◌≤◌, if◌then◌else◌, arith}
use Rattle.std.proofs.lemmas.Bool.Decides.{nat_tests}
use Rattle.std.proofs.lemmas.List.{append-nil, map-append, take_more}
use Rattle.std.proofs.lemmas.List.Sums.{fold-append}
use Rattle.std.proofs.lemmas.Option.{slice_get-map}
use Rattle.std.specs.Cmp.{IsEquivalence}
use Rattle.std.specs.List.{filter, filter_map, cons_option, list_any, position_or_len}
use Rattle.std.specs.Option.{option_map, option_and_then, unwrap_or}
use Rattle.indexmap.specs.IndexSet.{insert_key}
use Rattle.oa_typelib.specs.Groups.{distinct, places_of, with_place, places_in}
use Rattle.oa_sema.proofs.Lists.{position_finds, length-mapped}

-- ---- places

filter_later : {X : Type 0} (x : X) (xs : List X) (ns : List ℕ) → filter_map (slice_get (x ∷ xs)) (map (λ n. suc n) ns) ≡ filter_map (slice_get xs) ns
filter_later x xs [] = refl
filter_later x xs (n ∷ ns) = ap (cons_option (slice_get xs n)) (filter_later x xs ns)

at_place : {X : Type 0} (b : Bool) (x : X) (xs : List X) (ns : List ℕ)
    → filter_map (slice_get (x ∷ xs)) (if b then zero ∷ map (λ n. suc n) ns else map (λ n. suc n) ns) ≡ cond b (x ∷ filter_map (slice_get xs) ns)
    (filter_map (slice_get xs) ns)
at_place true x xs ns = ap (λ ys. x ∷ ys) (filter_later x xs ns)
at_place false x xs ns = filter_later x xs ns

-- The entries at the places of a key.
pub at_places : {X K : Type 0} (eq : K → K → Bool) (key : X → K) (k : K) (xs : List X) → filter_map (slice_get xs) (places_of eq k (map key xs)) ≡ filter
    (λ x. eq k (key x)) xs
unfolding places_of
at_places eq key k [] = refl
at_places eq key k (x ∷ xs) = at_place (eq k (key x)) x xs (places_of eq k (map key xs)) ∙ ap (λ ys. cond (eq k (key x)) (x ∷ ys) ys) (at_places eq key k xs)

-- the first of them
first_later : (ns : List ℕ) → slice_get (map (λ n. suc n) ns) 0 ≡ option_map (λ n. suc n) (slice_get ns 0)
first_later [] = refl
first_later (n ∷ ns) = refl

first_of : (b : Bool) (ns : List ℕ) → slice_get (if b then zero ∷ map (λ n. suc n) ns else map (λ n. suc n) ns) 0 ≡ cond b (Some zero)
    (option_map (λ n. suc n) (slice_get ns 0))
first_of true ns = refl
first_of false ns = first_later ns

later_by : (b : Bool) (n : ℕ) → cond b (Some (1 + n)) None ≡ option_map (λ n. suc n) (cond b (Some n) None)
later_by true n = ap (λ m. Some m) (omega arith)
later_by false n = refl

lt_step : (n m : ℕ) → nat_lt (1 + n) (suc m) ≡ nat_lt n m
lt_step n m = by (nat_lt n m) refl
  where
    by : (b : Bool) → nat_lt n m ≡ b → nat_lt (1 + n) (suc m) ≡ b
    by true h = grind (arith, nat_tests)
    by false h = grind (arith, nat_tests)

pub position_step : (b : Bool) (n m : ℕ) → cond (nat_lt (cond (not b) (1 + n) 0) (suc m)) (Some (cond (not b) (1 + n) 0)) None ≡ cond b (Some zero)
    (option_map (λ n. suc n) (cond (nat_lt n m) (Some n) None))
position_step true n m = let e : nat_lt 0 (suc m) ≡ true = grind (arith, nat_tests) in rw e refl
position_step false n m = ap (λ b. cond b (Some (1 + n)) None) (lt_step n m) ∙ later_by (nat_lt n m) n

pub first_place : {K : Type 0} (eq : K → K → Bool) (k : K) (ks : List K) → slice_get (places_of eq k ks) 0 ≡ position (eq k) ks
unfolding places_of
first_place eq k [] = refl
first_place eq k (x ∷ xs) =
    first_of (eq k x) (places_of eq k xs) ∙ ap (λ o. cond (eq k x) (Some zero) (option_map (λ n. suc n) o)) (first_place eq k xs)
    ∙ sym (position_step (eq k x) (position_or_len (eq k) xs) (length xs))

-- the places in a list with one key more
more_at : (b c : Bool) (n : ℕ) (ns : List ℕ)
    → (if b then zero ∷ map (λ n. suc n) (ns ++ (if c then n ∷ [] else [])) else map (λ n. suc n) (ns ++ (if c then n ∷ [] else [])))
    ≡ (if b then zero ∷ map (λ n. suc n) ns else map (λ n. suc n) ns) ++ (if c then suc n ∷ [] else [])
more_at true true n ns = ap (λ ms. zero ∷ ms) (map-append (λ n. suc n) ns (n ∷ []))
more_at true false n ns = ap (λ ms. zero ∷ ms) (map-append (λ n. suc n) ns [])
more_at false true n ns = map-append (λ n. suc n) ns (n ∷ [])
more_at false false n ns = map-append (λ n. suc n) ns []

pub places_more : {K : Type 0} (eq : K → K → Bool) (k : K) (ks : List K) (x : K)
    → places_of eq k (ks ++ x ∷ []) ≡ places_of eq k ks ++ (if eq k x then length ks ∷ [] else [])
unfolding places_of
places_more eq k [] x = refl
places_more eq k (y ∷ ks) x = ap (λ (ns : List ℕ). if eq k y then zero ∷ map (λ n. suc n) ns else map (λ n. suc n) ns) (places_more eq k ks x)
    ∙ more_at (eq k y) (eq k x) (length ks) (places_of eq k ks)

pub distinct_more : {K : Type 0} (eq : K → K → Bool) (ks : List K) (x : K) → distinct eq (ks ++ x ∷ []) ≡ insert_key eq (distinct eq ks) x
distinct_more eq ks x = fold-append (insert_key eq) [] ks (x ∷ [])

pub later : (g n : ℕ) (ps : List ℕ) (pss : List (List ℕ)) → with_place (1 + g) n (ps ∷ pss) ≡ ps ∷ with_place g n pss
unfolding with_place
later g n ps pss = let e : 1 + g ≡ suc g = omega arith in rw e refl

length_taken : {X : Type 0} (xs : List X) (i : ℕ) → i ≤ length xs → length (take i xs) ≡ i
length_taken xs zero h = refl
length_taken [] (suc i) h = absurd (omega (arith, h))
length_taken (x ∷ xs) (suc i) h = ap (λ n. suc n) (length_taken xs i (omega (arith, h)))

-- ---- keys of which none is equal to another
or_false : (a b : Bool) → (a || b) ≡ false → (a ≡ false) × (b ≡ false)
or_false true b h = absurd (true≢false h)
or_false false b h = (refl, h)

module _ {K : Type 0} (eq : K → K → Bool) (laws : IsEquivalence eq) where
  abbrev Differ : List K → Type 0
  Differ [] = Unit {0}
  Differ (k ∷ ks) = (list_any (eq k) ks ≡ false) × Differ ks

  any_end : (k x : K) (ks : List K) → list_any (eq k) ks ≡ false → eq k x ≡ false → list_any (eq k) (ks ++ x ∷ []) ≡ false
  any_end k x [] h e = rw e refl
  any_end k x (y ∷ ks) h e = let s = or_false (eq k y) (list_any (eq k) ks) h in rw (s.0, any_end k x ks s.1 e) refl

  differ_end : (ks : List K) (x : K) → Differ ks → list_any (eq x) ks ≡ false → Differ (ks ++ x ∷ [])
  differ_end [] x d h = (refl, tt)
  differ_end (k ∷ ks) x d h =
      let s = or_false (eq x k) (list_any (eq x) ks) h in
      (any_end k x ks d.0 (laws.symm k x ∙ s.0), differ_end ks x d.1 s.1)

  differ_insert : (ks : List K) (x : K) → Differ ks → Differ (insert_key eq ks x)
  differ_insert ks x d = by (list_any (eq x) ks) refl
    where
      by : (b : Bool) → list_any (eq x) ks ≡ b → Differ (if b then ks else ks ++ x ∷ [])
      by true h = d
      by false h = differ_end ks x d h

  differ_all : (seen ks : List K) → Differ seen → Differ (fold (insert_key eq) seen ks)
  differ_all seen [] d = d
  differ_all seen (k ∷ ks) d = differ_all (insert_key eq seen k) ks (differ_insert seen k d)

  pub differ : (ks : List K) → Differ (distinct eq ks)
  differ ks = differ_all [] ks tt

  -- a key that is not among the distinct ones is not among all
  any_like : (x y : K) (ks : List K) → eq x y ≡ true → list_any (eq x) ks ≡ list_any (eq y) ks
  any_like x y [] e = refl
  any_like x y (k ∷ ks) e = rw (laws.congr x y k e, any_like x y ks e) refl

  any_push : (x k : K) (ks : List K) → list_any (eq x) (ks ++ k ∷ []) ≡ (list_any (eq x) ks || eq x k)
  any_push x k [] = by (eq x k)
    where
      by : (b : Bool) → (b || false) ≡ b
      by true = refl
      by false = refl
  any_push x k (y ∷ ks) = ap (λ b. eq x y || b) (any_push x k ks) ∙ by (eq x y)
    where
      by : (b : Bool) → (b || (list_any (eq x) ks || eq x k)) ≡ ((b || list_any (eq x) ks) || eq x k)
      by true = refl
      by false = refl

  any_insert : (x k : K) (ks : List K) → list_any (eq x) (insert_key eq ks k) ≡ (list_any (eq x) ks || eq x k)
  any_insert x k ks = by (list_any (eq k) ks) refl (eq x k) refl
    where
      by : (b : Bool) → list_any (eq k) ks ≡ b → (c : Bool) → eq x k ≡ c → list_any (eq x) (if b then ks else ks ++ k ∷ []) ≡ (list_any (eq x) ks || c)
      by false h c e = any_push x k ks ∙ rw e refl
      by true h true e = rw (any_like x k ks e, h) refl
      by true h false e = or_none (list_any (eq x) ks)
        where
          or_none : (b : Bool) → b ≡ (b || false)
          or_none true = refl
          or_none false = refl

  or_assoc : (a b c : Bool) → ((a || b) || c) ≡ (a || (b || c))
  or_assoc true b c = refl
  or_assoc false b c = refl

  any_all : (x : K) (seen ks : List K) → list_any (eq x) (fold (insert_key eq) seen ks) ≡ (list_any (eq x) seen || list_any (eq x) ks)
  any_all x seen [] = by (list_any (eq x) seen)
    where
      by : (b : Bool) → b ≡ (b || false)
      by true = refl
      by false = refl
  any_all x seen (k ∷ ks) = any_all x (insert_key eq seen k) ks ∙ ap (λ b. b || list_any (eq x) ks) (any_insert x k seen)
      ∙ or_assoc (list_any (eq x) seen) (eq x k) (list_any (eq x) ks)

  places_none : (x : K) (ks : List K) → list_any (eq x) ks ≡ false → places_of eq x ks ≡ []
  unfolding places_of
  places_none x [] h = refl
  places_none x (k ∷ ks) h = let s = or_false (eq x k) (list_any (eq x) ks) h in rw (s.0, places_none x ks s.1) refl

  pub not_there : (x : K) (ks : List K) → list_any (eq x) (distinct eq ks) ≡ false → places_of eq x ks ≡ []
  not_there x ks h = places_none x ks (sym (any_all x [] ks) ∙ h)

  places_like : (x y : K) (ks : List K) → eq x y ≡ true → places_of eq x ks ≡ places_of eq y ks
  unfolding places_of
  places_like x y [] e = refl
  places_like x y (k ∷ ks) e = rw (laws.congr x y k e, places_like x y ks e) refl

  -- ---- the group of a key
  found_group : (x : K) (ds : List K) (ks : List K) → (list_any (eq x) ds ≡ false → places_of eq x ks ≡ [])
      → unwrap_or (option_map (λ k. places_of eq k ks) (find (eq x) ds)) [] ≡ places_of eq x ks
  found_group x [] ks none = sym (none refl)
  found_group x (d ∷ ds) ks none = by (eq x d) refl (λ h. found_group x ds ks h)
    where
      by : (b : Bool) → eq x d ≡ b
          → ((list_any (eq x) ds ≡ false → places_of eq x ks ≡ []) → unwrap_or (option_map (λ k. places_of eq k ks) (find (eq x) ds)) [] ≡ places_of eq x ks)
          → unwrap_or (option_map (λ k. places_of eq k ks) (cond b (Some d) (find (eq x) ds))) [] ≡ places_of eq x ks
      by true e rest = sym (places_like x d ks e)
      by false e rest = rest (λ h. none (ap (λ b. b || list_any (eq x) ds) e ∙ h))

  in_group : (o : Option ℕ) (pss : List (List ℕ)) → places_in o pss ≡ unwrap_or (option_and_then (slice_get pss) o) []
  in_group None pss = refl
  in_group (Some n) pss = refl

  mapped_group : (f : K → List ℕ) (o : Option ℕ) (ds : List K) → option_and_then (slice_get (map f ds)) o ≡ option_map f (option_and_then (slice_get ds) o)
  mapped_group f None ds = refl
  mapped_group f (Some n) ds = slice_get-map f ds n

  pub group_of : (x : K) (ks : List K) → places_in (position (eq x) (distinct eq ks)) (map (λ k. places_of eq k ks) (distinct eq ks)) ≡ places_of eq x ks
  group_of x ks =
      in_group (position (eq x) (distinct eq ks)) (map (λ k. places_of eq k ks) (distinct eq ks))
      ∙ ap (λ o. unwrap_or o []) (mapped_group (λ k. places_of eq k ks) (position (eq x) (distinct eq ks)) (distinct eq ks)
      ∙ ap (option_map (λ k. places_of eq k ks)) (position_finds (eq x) (distinct eq ks)))
      ∙ found_group x (distinct eq ks) ks (not_there x ks)

  -- ---- one key more
  more_same : (f : K → List ℕ) (x : K) (n : ℕ) (ds : List K) → list_any (eq x) ds ≡ false → map (λ k. f k ++ (if eq k x then n ∷ [] else [])) ds ≡ map f ds
  more_same f x n [] h = refl
  more_same f x n (d ∷ ds) h =
      let s = or_false (eq x d) (list_any (eq x) ds) h in
      rw (laws.symm d x ∙ s.0, more_same f x n ds s.1, append-nil (f d)) refl

  with_new : (f : K → List ℕ) (x : K) (n : ℕ) (ds : List K) → list_any (eq x) ds ≡ false → with_place (position_or_len (eq x) ds) n (map f ds) ≡ map f ds
      ++ (n ∷ []) ∷ []
  unfolding with_place
  with_new f x n [] h = refl
  with_new f x n (d ∷ ds) h =
      let s = or_false (eq x d) (list_any (eq x) ds) h in
      ap (λ b. with_place (cond (not b) (1 + position_or_len (eq x) ds) 0) n (f d ∷ map f ds)) s.0 ∙ later (position_or_len (eq x) ds) n (f d) (map f ds)
      ∙ ap (λ pss. f d ∷ pss) (with_new f x n ds s.1)

  with_old : (f : K → List ℕ) (x : K) (n : ℕ) (ds : List K) → Differ ds → list_any (eq x) ds ≡ true
      → map (λ k. f k ++ (if eq k x then n ∷ [] else [])) ds ≡ with_place (position_or_len (eq x) ds) n (map f ds)
  unfolding with_place
  with_old f x n [] d h = absurd (true≢false (sym h))
  with_old f x n (y ∷ ds) d h = by (eq x y) refl (with_old f x n ds d.1)
    where
      by : (b : Bool) → eq x y ≡ b
          → (list_any (eq x) ds ≡ true → map (λ k. f k ++ (if eq k x then n ∷ [] else [])) ds ≡ with_place (position_or_len (eq x) ds) n (map f ds))
          → (f y ++ (if eq y x then n ∷ [] else [])) ∷ map (λ k. f k ++ (if eq k x then n ∷ [] else [])) ds ≡ with_place
          (cond (not b) (1 + position_or_len (eq x) ds) 0) n (f y ∷ map f ds)
      by true e rest = rw (laws.symm y x ∙ e, more_same f x n ds (any_like x y ds e ∙ d.0)) refl
      by false e rest =
          rw (laws.symm y x ∙ e, append-nil (f y))
          (ap (λ pss. f y ∷ pss) (rest (sym (ap (λ b. b || list_any (eq x) ds) e) ∙ h)) ∙ sym (later (position_or_len (eq x) ds) n (f y) (map f ds)))

  new_group : (x : K) (ks : List K) → places_of eq x ks ≡ [] → places_of eq x (ks ++ x ∷ []) ≡ length ks ∷ []
  new_group x ks none = places_more eq x ks x ∙ rw (none, laws.refl x) refl

  all_more : (ks : List K) (x : K) (ds : List K) → map (λ k. places_of eq k (ks ++ x ∷ [])) ds ≡ map
      (λ k. places_of eq k ks ++ (if eq k x then length ks ∷ [] else [])) ds
  all_more ks x [] = refl
  all_more ks x (d ∷ ds) = rw (places_more eq d ks x, all_more ks x ds) refl

  pub grows : (ks : List K) (x : K) → map (λ k. places_of eq k (ks ++ x ∷ [])) (insert_key eq (distinct eq ks) x) ≡ with_place
      (position_or_len (eq x) (distinct eq ks)) (length ks) (map (λ k. places_of eq k ks) (distinct eq ks))
  grows ks x = by (list_any (eq x) (distinct eq ks)) refl
    where
      by : (b : Bool) → list_any (eq x) (distinct eq ks) ≡ b → map (λ k. places_of eq k (ks ++ x ∷ [])) (if b then distinct eq ks else distinct eq ks ++ x ∷ [])
          ≡ with_place (position_or_len (eq x) (distinct eq ks)) (length ks) (map (λ k. places_of eq k ks) (distinct eq ks))
      by true h = all_more ks x (distinct eq ks) ∙ with_old (λ k. places_of eq k ks) x (length ks) (distinct eq ks) (differ ks) h
      by false h =
          map-append (λ k. places_of eq k (ks ++ x ∷ [])) (distinct eq ks) (x ∷ [])
          ∙ rw (all_more ks x (distinct eq ks), more_same (λ k. places_of eq k ks) x (length ks) (distinct eq ks) h, new_group x ks (not_there x ks h))
          (sym (with_new (λ k. places_of eq k ks) x (length ks) (distinct eq ks) h))

  -- ---- a turn of a loop that puts keys into groups
  module _ {X : Type 0} (key : X → K) (xs : List X) (i : ℕ) (x : X) (h : i < length xs) (is : x ≡ get_or xs i x) where
    turn_keys : map key (take (i + 1) xs) ≡ map key (take i xs) ++ key x ∷ []
    turn_keys =
        let e = take_more xs i x h in
        rw (e, map-append, ← is) refl

    turn_length : length (map key (take i xs)) ≡ i
    turn_length = length-mapped key (take i xs) ∙ length_taken xs i (omega (arith, h))

    pub keys_grow : distinct eq (map key (take (i + 1) xs)) ≡ insert_key eq (distinct eq (map key (take i xs))) (key x)
    keys_grow = ap (distinct eq) turn_keys ∙ distinct_more eq (map key (take i xs)) (key x)

    pub places_grow : map (λ k. places_of eq k (map key (take (i + 1) xs))) (distinct eq (map key (take (i + 1) xs))) ≡ with_place
        (position_or_len (eq (key x)) (distinct eq (map key (take i xs)))) i
        (map (λ k. places_of eq k (map key (take i xs))) (distinct eq (map key (take i xs))))
    places_grow =
        ap (λ ks. map (λ k. places_of eq k ks) (distinct eq ks)) turn_keys
        ∙ ap (map (λ k. places_of eq k (map key (take i xs) ++ key x ∷ []))) (distinct_more eq (map key (take i xs)) (key x))
        ∙ grows (map key (take i xs)) (key x)
        ∙ ap (λ n. with_place (position_or_len (eq (key x)) (distinct eq (map key (take i xs)))) n
        (map (λ k. places_of eq k (map key (take i xs))) (distinct eq (map key (take i xs))))) turn_length

-- whether a key has a place
any_first : (b : Bool) (ns : List ℕ) → is_some (slice_get (if b then zero ∷ map (λ n. suc n) ns else map (λ n. suc n) ns) 0) ≡ (b || is_some (slice_get ns 0))
any_first true ns = refl
any_first false [] = refl
any_first false (n ∷ ns) = refl

any_of_places : {K : Type 0} (eq : K → K → Bool) (k : K) (ks : List K) → is_some (slice_get (places_of eq k ks) 0) ≡ list_any (eq k) ks
unfolding places_of
any_of_places eq k [] = refl
any_of_places eq k (x ∷ xs) = any_first (eq k x) (places_of eq k xs) ∙ ap (λ b. eq k x || b) (any_of_places eq k xs)

pub any_place : {K : Type 0} (eq : K → K → Bool) (k : K) (ks : List K) → is_some (position (eq k) ks) ≡ list_any (eq k) ks
any_place eq k ks = ap is_some (sym (first_place eq k ks)) ∙ any_of_places eq k ks
