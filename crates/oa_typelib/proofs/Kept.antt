-- Loops that keep some of a list.
use Rattle.std.proofs.Common.{◌≡◌, ◌<◌, ◌+◌, ℕ, Bool, true, false, cond, List, [], ◌∷◌, ◌++◌, length, map, take, drop}
use Rattle.std.proofs.Common.{get_or, slice_get, Option, None, Some, refl, ap, ◌∙◌, if◌then◌else◌, length-append}
use Rattle.std.proofs.Math.Seq.{drop-cons}
use Rattle.std.proofs.lemmas.List.{append-nil, take_more, map-append, append_assoc}
use Rattle.std.proofs.lemmas.List.Elements.{filter_map-append}
use Rattle.std.proofs.lemmas.Option.{slice_get_read}
use Rattle.std.specs.List.{filter, filter_map, cons_option}
use Rattle.std.specs.Option.{option_and_then}

module _ {X Y : Type 0} (f : X → Option Y) (xs : List X) (i : ℕ) (x : X) (h : i < length xs) (is : x ≡ get_or xs i x) where
  turn : filter_map f (take (i + 1) xs) ≡ filter_map f (take i xs) ++ cons_option (f x) []
  turn =
      let e = take_more xs i x h in
      rw (e, filter_map-append, ← is) refl

  pub one_more : (y : Y) → f x ≡ Some y → filter_map f (take (i + 1) xs) ≡ filter_map f (take i xs) ++ y ∷ []
  one_more y some = turn ∙ ap (λ o. filter_map f (take i xs) ++ cons_option o []) some

  pub none_more : f x ≡ None → filter_map f (take (i + 1) xs) ≡ filter_map f (take i xs)
  none_more none = turn ∙ ap (λ o. filter_map f (take i xs) ++ cons_option o []) none ∙ append-nil (filter_map f (take i xs))

  pub count_more : (y : Y) → f x ≡ Some y → length (filter_map f (take (i + 1) xs)) ≡ length (filter_map f (take i xs)) + 1
  count_more y some = ap length (one_more y some) ∙ length-append (filter_map f (take i xs)) (y ∷ [])

module _ {X Y : Type 0} (f : X → Option Y) (xs : List X) (i : ℕ) (x : X) (h : i < length xs) (is : x ≡ get_or xs i x) where
  -- The next one that is kept, if there is one at this place.
  pub nth_here : (y : Y) → f x ≡ Some y → option_and_then f (slice_get xs i) ≡ slice_get (filter_map f (drop i xs)) 0
  nth_here y some =
      let e = drop-cons xs i x h in
      let r : slice_get xs i ≡ Some x = slice_get_read xs (length xs) i x refl h is in
      rw (r, e, ← is, some) refl

-- ---- lists that are added to others, one member more in each turn
pub described_more : {X Y : Type 0} (front : List Y) (g : X → Y) (xs more : List X) (x : X) (old new : List Y) (y : Y) → old ≡ front ++ map g xs
    → new ≡ old ++ y ∷ [] → y ≡ g x → more ≡ xs ++ x ∷ [] → new ≡ front ++ map g more
described_more front g xs more x old new y o n e m = n ∙ rw (o, m, e, map-append, append_assoc) refl

pub seen_more : {X Y Z : Type 0} (f : X → Z) (g : Y → Z) (old new : List X) (ys more : List Y) (x : X) (y : Y) → map f old ≡ map g ys → new ≡ old ++ x ∷ []
    → f x ≡ g y → more ≡ ys ++ y ∷ [] → map f new ≡ map g more
seen_more f g old new ys more x y o n e m = rw (n, m, map-append, map-append, o, e) refl

-- ---- The results of a function that pass a test.
filter_step : {Y : Type 0} (p : Y → Bool) (o : Option Y) (ys : List Y)
    → filter p (cons_option o ys) ≡ cons_option (option_and_then (λ y. if p y then Some y else None) o) (filter p ys)
filter_step p None ys = refl
filter_step p (Some y) ys = by (p y)
  where
    by : (b : Bool) → cond b (y ∷ filter p ys) (filter p ys) ≡ cons_option (if b then Some y else None) (filter p ys)
    by true = refl
    by false = refl

pub filter_of_map : {X Y : Type 0} (p : Y → Bool) (f : X → Option Y) (xs : List X)
    → filter p (filter_map f xs) ≡ filter_map (λ x. option_and_then (λ y. if p y then Some y else None) (f x)) xs
filter_of_map p f [] = refl
filter_of_map p f (x ∷ xs) = filter_step p (f x) (filter_map f xs) ∙ ap (cons_option (option_and_then (λ y. if p y then Some y else None) (f x)))
    (filter_of_map p f xs)
