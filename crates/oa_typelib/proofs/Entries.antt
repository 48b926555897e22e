-- The entries of a map from keys to their places.
use Rattle.std.proofs.Common.{◌≡◌, ◌+◌, ℕ, Bool, true, false, cond, not, ◌||◌, List, [], ◌∷◌, ◌++◌, map}
use Rattle.std.proofs.Common.{position, slice_get, Option, None, Some, refl, sym, ap, ◌∙◌, if◌then◌else◌}
use Rattle.std.specs.List.{list_any, position_or_len}
use Rattle.std.specs.Map.{keys_of, values_of, lookup, set_value}
use Rattle.std.specs.Option.{option_map, option_and_then, unwrap_or}
use Rattle.std.proofs.lemmas.Map.{keys-set_value}
use Rattle.std.proofs.lemmas.Option.{slice_get-map}
use Rattle.indexmap.specs.IndexMap.{insert_entry}
use Rattle.indexmap.specs.IndexSet.{insert_key}
use Rattle.indexmap.proofs.MapLemmas.{Found-position, Missing-position}
use Rattle.indexmap.proofs.SetLemmas.{keys_insert_entry}
use Rattle.oa_typelib.specs.Groups.{with_place, places_in}
use Rattle.oa_typelib.proofs.Grouping.{later}

-- ---- the group of a key
mapped_places : {V : Type 0} (f : V → List ℕ) (o : Option ℕ) (vs : List V)
    → places_in o (map f vs) ≡ unwrap_or (option_map f (option_and_then (slice_get vs) o)) []
mapped_places f None vs = refl
mapped_places f (Some n) vs = ap (λ o. unwrap_or o []) (slice_get-map f vs n)

by_place : {A V : Type 0} (t : A → Bool) (es : List (A × V)) → option_and_then (slice_get (values_of es)) (position t (keys_of es)) ≡ lookup t es
by_place t es = by (position t (keys_of es)) refl
  where
    by : (o : Option ℕ) → position t (keys_of es) ≡ o → option_and_then (slice_get (values_of es)) o ≡ lookup t es
    by None p = sym (Missing-position t es p).value
    by (Some i) p = sym (Found-position t es i p).value

there : {A V : Type 0} (t : A → Bool) (es : List (A × V)) (v : V) → lookup t es ≡ Some v → list_any t (keys_of es) ≡ true
there t [] v h = absurd (cc)
there t (e ∷ es) v h = by (t e.0) h (λ r. there t es v r)
  where
    by : (b : Bool) → cond b (Some e.1) (lookup t es) ≡ Some v → (lookup t es ≡ Some v → list_any t (keys_of es) ≡ true) → (b || list_any t (keys_of es)) ≡ true
    by true h rest = refl
    by false h rest = rest h

group_grows : {A V : Type 0} (f : V → List ℕ) (t : A → Bool) (n : ℕ) (es : List (A × V)) (v w : V) → lookup t es ≡ Some v → f w ≡ f v ++ n ∷ []
    → map f (values_of (set_value t es w)) ≡ with_place (position_or_len t (keys_of es)) n (map f (values_of es))
unfolding with_place
group_grows f t n [] v w h is = absurd (cc)
group_grows f t n (e ∷ es) v w h is = by (t e.0) h (λ r. group_grows f t n es v w r is)
  where
    by : (b : Bool) → cond b (Some e.1) (lookup t es) ≡ Some v
        → (lookup t es ≡ Some v → map f (values_of (set_value t es w)) ≡ with_place (position_or_len t (keys_of es)) n (map f (values_of es)))
        → map f (values_of (cond b ((e.0, w) ∷ es) (e ∷ set_value t es w))) ≡ with_place (cond (not b) (1 + position_or_len t (keys_of es)) 0) n
        (f e.1 ∷ map f (values_of es))
    by true h rest = let v_is : v ≡ e.1 = cc in ap (λ ps. ps ∷ map f (values_of es)) (is ∙ ap (λ x. f x ++ n ∷ []) v_is)
    by false h rest = ap (λ pss. f e.1 ∷ pss) (rest h) ∙ sym (later (position_or_len t (keys_of es)) n (f e.1) (map f (values_of es)))

group_starts : {A V : Type 0} (f : V → List ℕ) (eq : A → A → Bool) (k : A) (n : ℕ) (es : List (A × V)) (w : V) → lookup (eq k) es ≡ None → f w ≡ n ∷ []
    → map f (values_of (insert_entry eq es k w)) ≡ with_place (position_or_len (eq k) (keys_of es)) n (map f (values_of es))
unfolding with_place
group_starts f eq k n [] w h is = ap (λ ps. ps ∷ []) is
group_starts f eq k n (e ∷ es) w h is = by (eq k e.0) h (λ r. group_starts f eq k n es w r is)
  where
    by : (b : Bool) → cond b (Some e.1) (lookup (eq k) es) ≡ None
        → (lookup (eq k) es ≡ None → map f (values_of (insert_entry eq es k w)) ≡ with_place (position_or_len (eq k) (keys_of es)) n (map f (values_of es)))
        → map f (values_of (if b then (e.0, w) ∷ es else e ∷ insert_entry eq es k w)) ≡ with_place (cond (not b) (1 + position_or_len (eq k) (keys_of es)) 0) n
        (f e.1 ∷ map f (values_of es))
    by true h rest = absurd (cc)
    by false h rest = ap (λ pss. f e.1 ∷ pss) (rest h) ∙ sym (later (position_or_len (eq k) (keys_of es)) n (f e.1) (map f (values_of es)))

-- ---- The result of a look-up, and the effect of an addition.
module _ {K V : Type 0} (f : V → List ℕ) (es : List (K × V)) where
  pub found_places : (t : K → Bool) (o : Option V) → o ≡ lookup t es → unwrap_or (option_map f o) [] ≡ places_in (position t (keys_of es))
      (map f (values_of es))
  found_places t o is = ap (λ r. unwrap_or (option_map f r) []) (is ∙ sym (by_place t es)) ∙ sym (mapped_places f (position t (keys_of es)) (values_of es))

  pub own_places : (t : K → Bool) (v : V) → lookup t es ≡ Some v → f v ≡ places_in (position t (keys_of es)) (map f (values_of es))
  own_places t v is = found_places t (Some v) (sym is)

  module _ (eq : K → K → Bool) (k : K) (new : List (K × V)) where
    -- a key that is there
    module _ (v w : V) (at : Some v ≡ lookup (eq k) es) (is : new ≡ set_value (eq k) es w) where
      pub keys_stay : keys_of new ≡ insert_key eq (keys_of es) k
      keys_stay =
          ap keys_of is
          ∙ keys-set_value (eq k) es w
          ∙ sym (ap (λ b. if b then keys_of es else keys_of es ++ k ∷ []) (there (eq k) es v (sym at)))

      pub place_added : (n : ℕ) → f w ≡ f v ++ n ∷ [] → map f (values_of new) ≡ with_place (position_or_len (eq k) (keys_of es)) n (map f (values_of es))
      place_added n more = ap (λ xs. map f (values_of xs)) is ∙ group_grows f (eq k) n es v w (sym at) more

    -- a new key
    module _ (w : V) (is : new ≡ insert_entry eq es k w) where
      pub key_new : keys_of new ≡ insert_key eq (keys_of es) k
      key_new = ap keys_of is ∙ keys_insert_entry eq es k w

      pub place_new : (n : ℕ) → None ≡ lookup (eq k) es → f w ≡ n ∷ [] → map f (values_of new) ≡ with_place (position_or_len (eq k) (keys_of es)) n
          (map f (values_of es))
      place_new n none one = ap (λ xs. map f (values_of xs)) is ∙ group_starts f eq k n es w (sym none) one
