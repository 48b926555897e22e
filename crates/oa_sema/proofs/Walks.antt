-- Walks over a list whose members are compared with those before them.
use Rattle.std.proofs.Common.{◌≡◌, ◌<◌, ◌≤◌, ◌+◌, ℕ, zero, suc, Bool, true, false, not, cond, ◌&&◌, ◌||◌, if◌then◌else◌}
use Rattle.std.proofs.Common.{List, [], ◌∷◌, ◌++◌, length, map, take, drop, get_or, Option, None, Some, ◌⊎◌, inl, inr}
use Rattle.std.proofs.Common.{⊎_elim, refl, sym, ap, subst, ◌∙◌, arith, add-one, append_assoc, true≢false}
use Rattle.std.proofs.Math.Seq.{drop-cons}
use Rattle.std.proofs.Math.ListN.{drop_of_length-le}
use Rattle.std.proofs.lemmas.List.{take_more, map-append, append-nil}
use Rattle.std.specs.Cmp.{IsEquivalence}
use Rattle.std.specs.List.{list_any, AllByRecursion}
use Rattle.std.specs.Option.{option_map, option_or}
use Rattle.oa_sema.specs.promise.Repeats.{first_after}
use Rattle.oa_sema.specs.Repeats.{last_place, places_before}

-- ---- a turn of a walk over xs, which is at i
module _ {X Y : Type 0} (f : List X → X → Option Y) (xs : List X) (i : ℕ) where
  after_turn : (x : X) → i < length xs → x ≡ get_or xs i x → first_after f (take i xs) (drop i xs) ≡ option_or (f (take i xs) x)
      (first_after f (take (i + 1) xs) (drop (i + 1) xs))
  unfolding first_after
  after_turn x h is =
      let d = drop-cons xs i x h in
      let t = take_more xs i x h in
      rw (d, t, ← is, add-one) refl

  pub after_found : (x : X) (y : Y) → i < length xs → x ≡ get_or xs i x → first_after f [] xs ≡ first_after f (take i xs) (drop i xs) → f (take i xs) x ≡ Some y
      → first_after f [] xs ≡ Some y
  after_found x y h is left some = left ∙ after_turn x h is ∙ ap (λ o. option_or o (first_after f (take (i + 1) xs) (drop (i + 1) xs))) some

  pub after_on : (x : X) → i < length xs → x ≡ get_or xs i x → first_after f [] xs ≡ first_after f (take i xs) (drop i xs) → f (take i xs) x ≡ None
      → first_after f [] xs ≡ first_after f (take (i + 1) xs) (drop (i + 1) xs)
  after_on x h is left none = left ∙ after_turn x h is ∙ ap (λ o. option_or o (first_after f (take (i + 1) xs) (drop (i + 1) xs))) none

  pub after_done : length xs ≤ i → first_after f [] xs ≡ first_after f (take i xs) (drop i xs) → first_after f [] xs ≡ None
  unfolding first_after
  after_done h left = left ∙ ap (first_after f (take i xs)) (drop_of_length-le xs h)

-- ---- the last place that passes a test
last_later : (m : ℕ) (b : Bool) (n : ℕ) → option_or (option_map (λ k. suc k) (Some m)) (if b then Some zero else None) ≡ Some n → n ≡ suc m
last_later m b n e = cc

last_here : (b : Bool) (n : ℕ) → option_or (option_map (λ k. suc k) None) (if b then Some zero else None) ≡ Some n → (b ≡ true) × (n ≡ zero)
last_here true n e = (refl, cc)
last_here false n e = absurd (cc)

last_none : (o : Option ℕ) (b : Bool) → option_or (option_map (λ k. suc k) o) (if b then Some zero else None) ≡ None → (o ≡ None) × (b ≡ false)
last_none None true e = absurd (cc)
last_none None false e = (refl, refl)
last_none (Some m) b e = absurd (cc)

-- it is here, and none follows; or later
abbrev Here : {X : Type 0} → (X → Bool) → X → List X → ℕ → Type 0
Here test y ys n = (test y ≡ true) × (n ≡ zero) × (last_place test ys ≡ None)

abbrev There : {X : Type 0} → (X → Bool) → List X → ℕ → Type 0
There test ys n = (m : ℕ) × (last_place test ys ≡ Some m) × (n ≡ suc m)

last_by : {X : Type 0} (test : X → Bool) (y : X) (ys : List X) (n : ℕ) (o : Option ℕ) → last_place test ys ≡ o
    → option_or (option_map (λ k. suc k) o) (if test y then Some zero else None) ≡ Some n → Here test y ys n ⊎ There test ys n
last_by test y ys n None o h = let p = last_here (test y) n h in inl (p.0, p.1, o)
last_by test y ys n (Some m) o h = inr (m, o, last_later m (test y) n h)

last_cases : {X : Type 0} (test : X → Bool) (y : X) (ys : List X) (n : ℕ) → last_place test (y ∷ ys) ≡ Some n → Here test y ys n ⊎ There test ys n
unfolding last_place
last_cases test y ys n e = last_by test y ys n (last_place test ys) refl e

at_here : {X : Type 0} (x y : X) (ys : List X) (n : ℕ) → n ≡ zero → x ≡ get_or (y ∷ ys) n x → x ≡ y
at_here x y ys n z is = is ∙ ap (λ k. get_or (y ∷ ys) k x) z

at_there : {X : Type 0} (x y : X) (ys : List X) (n m : ℕ) → n ≡ suc m → x ≡ get_or (y ∷ ys) n x → x ≡ get_or ys m x
at_there x y ys n m z is = is ∙ ap (λ k. get_or (y ∷ ys) k x) z

-- The place is inside the list.
pub last_within : {X : Type 0} (test : X → Bool) (xs : List X) (n : ℕ) → last_place test xs ≡ Some n → n < length xs
unfolding last_place
last_within test [] n e = absurd (cc)
last_within test (y ∷ ys) n e = ⊎_elim (λ h. rw h.1 (omega arith)) (λ t. let w = last_within test ys t.0 t.1 in omega (arith, w, t.2))
    (last_cases test y ys n e)

pub last_passes : {X : Type 0} (test : X → Bool) (xs : List X) (n : ℕ) (x : X) → last_place test xs ≡ Some n → x ≡ get_or xs n x → test x ≡ true
unfolding last_place
last_passes test [] n x e is = absurd (cc)
last_passes test (y ∷ ys) n x e is = ⊎_elim (λ h. ap test (at_here x y ys n h.1 is) ∙ h.0) (λ t. last_passes test ys t.0 x t.1 (at_there x y ys n t.0 t.2 is))
    (last_cases test y ys n e)

pub last_has : {X : Type 0} (P : X → Type 0) (test : X → Bool) (xs : List X) (n : ℕ) (x : X) → AllByRecursion P xs → last_place test xs ≡ Some n
    → x ≡ get_or xs n x → P x
unfolding last_place
last_has P test [] n x all e is = absurd (cc)
last_has P test (y ∷ ys) n x all e is = ⊎_elim (λ h. subst P (sym (at_here x y ys n h.1 is)) all.0)
    (λ t. last_has P test ys t.0 x all.1 t.1 (at_there x y ys n t.0 t.2 is)) (last_cases test y ys n e)

pub none_passes : {X : Type 0} (test other : X → Bool) (xs : List X) → ((x : X) → test x ≡ false → other x ≡ false) → last_place test xs ≡ None
    → list_any other xs ≡ false
unfolding last_place
none_passes test other [] stronger e = refl
none_passes test other (y ∷ ys) stronger e =
    let h = last_none (last_place test ys) (test y) e in
    rw (stronger y h.1) (none_passes test other ys stronger h.0)

cond_later : (b c : Bool) (len : ℕ) (l : Option ℕ) → option_or (option_map (λ k. suc k) (cond b (Some len) l)) (if c then Some zero else None) ≡ cond b
    (Some (suc len)) (option_or (option_map (λ k. suc k) l) (if c then Some zero else None))
cond_later true c len l = refl
cond_later false c len l = refl

cond_first : (b : Bool) → option_or (option_map (λ k. suc k) None) (if b then Some zero else None) ≡ cond b (Some zero) None
cond_first true = refl
cond_first false = refl

-- with one member more
pub last_more : {X : Type 0} (test : X → Bool) (xs : List X) (y : X) → last_place test (xs ++ y ∷ []) ≡ cond (test y) (Some (length xs)) (last_place test xs)
unfolding last_place
last_more test [] y = cond_first (test y)
last_more test (x ∷ xs) y = ap (λ o. option_or (option_map (λ k. suc k) o) (if test x then Some zero else None)) (last_more test xs y)
    ∙ cond_later (test y) (test x) (length xs) (last_place test xs)

-- ---- for each member the last one before it that is like it

pub length-places : {X : Type 0} (eq : X → X → Bool) (before xs : List X) → length (places_before eq before xs) ≡ length xs
unfolding places_before
length-places eq before [] = refl
length-places eq before (x ∷ xs) = ap (λ n. suc n) (length-places eq (before ++ x ∷ []) xs)

pub place_at : {X : Type 0} (eq : X → X → Bool) (before xs : List X) (i : ℕ) (x : X) (o : Option ℕ) → i < length xs → x ≡ get_or xs i x
    → get_or (places_before eq before xs) i o ≡ last_place (λ y. eq y x) (before ++ take i xs)
unfolding places_before
place_at eq before [] i x o h is = absurd (omega (arith, h))
place_at eq before (y ∷ ys) zero x o h is = rw (append-nil before, is) refl
place_at eq before (y ∷ ys) (suc i) x o h is = place_at eq (before ++ y ∷ []) ys i x o (omega (arith, h)) is ∙ rw append_assoc refl

pub places-append : {X : Type 0} (eq : X → X → Bool) (before xs : List X) (y : X) → places_before eq before (xs ++ y ∷ []) ≡ places_before eq before xs
    ++ last_place (λ x. eq x y) (before ++ xs) ∷ []
unfolding places_before
places-append eq before [] y = rw (append-nil before) refl
places-append eq before (x ∷ xs) y = ap (λ os. last_place (λ z. eq z x) before ∷ os) (places-append eq (before ++ x ∷ []) xs y ∙ rw append_assoc refl)

last-map : {X Y : Type 0} (f : X → Y) (test : Y → Bool) (xs : List X) → last_place test (map f xs) ≡ last_place (λ x. test (f x)) xs
unfolding last_place
last-map f test [] = refl
last-map f test (x ∷ xs) = ap (λ o. option_or (option_map (λ k. suc k) o) (if test (f x) then Some zero else None)) (last-map f test xs)

-- seen through f
pub places-map : {X Y : Type 0} (f : X → Y) (eq : Y → Y → Bool) (before xs : List X) → places_before eq (map f before) (map f xs) ≡ places_before
    (λ x y. eq (f x) (f y)) before xs
unfolding places_before
places-map f eq before [] = refl
places-map f eq before (x ∷ xs) =
    let rest = places-map f eq (before ++ x ∷ []) xs in
    let r : places_before eq (map f before ++ f x ∷ []) (map f xs) ≡ places_before (λ y z. eq (f y) (f z)) (before ++ x ∷ []) xs = rw map-append at rest in
    rw (last-map f (λ y. eq y (f x)) before, r) refl

pub none_left : {X : Type 0} (xs : List X) → length xs ≡ 0 → xs ≡ []
none_left [] e = refl
none_left (x ∷ xs) e = absurd (omega (arith, e))

-- ---- a rule that members which are alike keep

or_false : (b : Bool) → (b || false) ≡ b
or_false true = refl
or_false false = refl

not_both : (b c : Bool) → (b && not c) ≡ false → b ≡ true → c ≡ true
not_both b true e h = refl
not_both true false e h = absurd (true≢false e)
not_both false false e h = absurd (true≢false (sym h))

module _ {X : Type 0} (s r : X → X → Bool) where
  abbrev breaks_it : X → X → Bool
  breaks_it d e = s d e && not (r d e)

  -- no member breaks it with one before it
  abbrev pub Keeps_it : List X → Type 0
  Keeps_it [] = Unit {0}
  Keeps_it (e ∷ es) = AllByRecursion (λ x. breaks_it x e ≡ false) es × Keeps_it es

  all_more : (P : X → Type 0) (xs : List X) (y : X) → AllByRecursion P xs → P y → AllByRecursion P (xs ++ y ∷ [])
  all_more P [] y all h = (h, tt)
  all_more P (x ∷ xs) y all h = (all.0, all_more P xs y all.1 h)

  neither : (b c : Bool) → (b || c) ≡ false → (b ≡ false) × (c ≡ false)
  neither true c e = absurd (true≢false e)
  neither false c e = (refl, e)

  pub keeps_more : (xs : List X) (d : X) → Keeps_it xs → list_any (breaks_it d) xs ≡ false → Keeps_it (xs ++ d ∷ [])
  keeps_more [] d k none = (tt, tt)
  keeps_more (x ∷ xs) d k none =
      let h = neither (breaks_it d x) (list_any (breaks_it d) xs) none in
      (all_more (λ y. breaks_it y x ≡ false) xs d k.0 h.0, keeps_more xs d k.1 h.1)

  -- Entries that are alike and satisfy the rule agree in their comparison with others that are alike.
  carried : IsEquivalence s → IsEquivalence r → (d x e : X) → s d x ≡ true → breaks_it d x ≡ false → breaks_it x e ≡ false → breaks_it d e ≡ false
  carried es er d x e alike kept before =
      rw (es.congr d x e alike, er.congr d x e (not_both (s d x) (r d x) kept alike)) before

  same_or : (b c : Bool) → (c ≡ false → b ≡ false) → (b || c) ≡ c
  same_or true true h = refl
  same_or true false h = absurd (true≢false (h refl))
  same_or false c h = refl

  -- The last entry that is alike decides whether one violates the rule.
  pub told_by_last : IsEquivalence s → IsEquivalence r → (d : X) (xs : List X) (n : ℕ) (x : X) → Keeps_it xs → last_place (λ e. s e d) xs ≡ Some n
      → x ≡ get_or xs n x → list_any (breaks_it d) xs ≡ breaks_it d x
  unfolding last_place
  told_by_last es er d [] n x k e is = absurd (cc)
  told_by_last es er d (y ∷ ys) n x k e is = ⊎_elim {A = Here (λ z. s z d) y ys n} {B = There (λ z. s z d) ys n}
      (λ h. let rest : list_any (breaks_it d) ys ≡ false =
      none_passes (λ z. s z d) (breaks_it d) ys (λ z apart. ap (λ b. b && not (r d z)) (es.symm d z ∙ apart)) h.2 in
      rw (rest, at_here x y ys n h.1 is) (or_false (breaks_it d y)))
      (λ t. let at = at_there x y ys n t.0 t.2 is in
      let rest = told_by_last es er d ys t.0 x k.1 t.1 at in
      rw rest (same_or (breaks_it d y) (breaks_it d x)
      (λ kept. carried es er d x y (es.symm d x ∙ last_passes (λ z. s z d) ys t.0 x t.1 at) kept
      (last_has (λ z. breaks_it z y ≡ false) (λ z. s z d) ys t.0 x k.0 t.1 at))))
      (last_cases (λ z. s z d) y ys n e)
