-- What calls of a map do among entries, where the key's place is in one part of them.
use Rattle.std.proofs.Common.{◌≡◌, ◌∙◌, ◌<◌, ℕ, suc, Bool, true, false, cond, List, [], ◌∷◌, ◌++◌, Some, length, take, drop, set, refl, sym, ap, arith}
use Rattle.std.specs.Map.{lookup, remove_entry, set_value}
use Rattle.std.specs.BTreeMap.{insert_entry, is_at}
use Rattle.std.specs.Ordering.{match_ordering}
use Rattle.std.specs.declared.cmp.Ordering.{Ordering}
use Rattle.std.specs.declared.cmp.Ordering.TheVariants.{Less, Equal, Greater}
use Rattle.std.proofs.lemmas.Map.{length-set_value}
use Rattle.oa_ordered.specs.Rows.{AllAbove, AllBelow, AreFilled, IsRowFor, concat_rows}
use Rattle.oa_ordered.proofs.Joined.{filled_row, filled_set, joined_at, joined_set, row_of}
use Rattle.oa_ordered.proofs.Split.{insert_gap, lookup_gap, remove_gap, set_gap}

cond_append : {X : Type 0} (b : Bool) (xs ys back : List X) → cond b (xs ++ back) (ys ++ back) ≡ cond b xs ys ++ back
cond_append true xs ys back = refl
cond_append false xs ys back = refl

match_append : {X : Type 0} (o : Ordering) (xs ys zs back : List X) → match_ordering o (xs ++ back) (ys ++ back) (zs ++ back) ≡ match_ordering o xs ys zs
    ++ back
match_append Less xs ys zs back = refl
match_append Equal xs ys zs back = refl
match_append Greater xs ys zs back = refl

module _ {K X : Type 0} (cmp : K → K → Ordering) (key : K) where
  -- entries in front, below the key
  lookup_front : (front es : List (K × X)) → AllBelow cmp key front → lookup (is_at (cmp key)) (front ++ es) ≡ lookup (is_at (cmp key)) es
  lookup_front [] es below = refl
  lookup_front (f ∷ front) es below = rw below.0 (lookup_front front es below.1)

  insert_front : (front es : List (K × X)) (v : X) → AllBelow cmp key front → insert_entry cmp (front ++ es) key v ≡ front ++ insert_entry cmp es key v
  insert_front [] es v below = refl
  insert_front (f ∷ front) es v below = rw below.0 (ap (λ r. f ∷ r) (insert_front front es v below.1))

  remove_front : (front es : List (K × X)) → AllBelow cmp key front → remove_entry (is_at (cmp key)) (front ++ es) ≡ front ++ remove_entry (is_at (cmp key)) es
  remove_front [] es below = refl
  remove_front (f ∷ front) es below = rw below.0 (ap (λ r. f ∷ r) (remove_front front es below.1))

  set_front : (front es : List (K × X)) (w : X) → AllBelow cmp key front → set_value (is_at (cmp key)) (front ++ es) w ≡ front ++ set_value
      (is_at (cmp key)) es w
  set_front [] es w below = refl
  set_front (f ∷ front) es w below = rw below.0 (ap (λ r. f ∷ r) (set_front front es w below.1))

  -- and behind, above it
  module _ (back : List (K × X)) (above : AllAbove cmp key back) where
    lookup_back : (es : List (K × X)) → lookup (is_at (cmp key)) (es ++ back) ≡ lookup (is_at (cmp key)) es
    lookup_back [] = lookup_gap cmp key [] back tt above
    lookup_back (e ∷ es) = ap (λ r. cond (is_at (cmp key) e.0) (Some e.1) r) (lookup_back es)

    insert_back : (es : List (K × X)) (v : X) → insert_entry cmp (es ++ back) key v ≡ insert_entry cmp es key v ++ back
    insert_back [] v = insert_gap cmp key [] v back tt above
    insert_back (e ∷ es) v =
        ap (λ r. match_ordering (cmp key e.0) ((key, v) ∷ e ∷ (es ++ back)) ((e.0, v) ∷ (es ++ back)) (e ∷ r)) (insert_back es v)
        ∙ match_append (cmp key e.0) ((key, v) ∷ e ∷ es) ((e.0, v) ∷ es) (e ∷ insert_entry cmp es key v) back

    remove_back : (es : List (K × X)) → remove_entry (is_at (cmp key)) (es ++ back) ≡ remove_entry (is_at (cmp key)) es ++ back
    remove_back [] = remove_gap cmp key [] back tt above
    remove_back (e ∷ es) =
        ap (λ r. cond (is_at (cmp key) e.0) (es ++ back) (e ∷ r)) (remove_back es)
        ∙ cond_append (is_at (cmp key) e.0) es (e ∷ remove_entry (is_at (cmp key)) es) back

    set_back : (es : List (K × X)) (w : X) → set_value (is_at (cmp key)) (es ++ back) w ≡ set_value (is_at (cmp key)) es w ++ back
    set_back [] w = set_gap cmp key [] back w tt above
    set_back (e ∷ es) w =
        ap (λ r. cond (is_at (cmp key) e.0) ((e.0, w) ∷ (es ++ back)) (e ∷ r)) (set_back es w)
        ∙ cond_append (is_at (cmp key) e.0) ((e.0, w) ∷ es) (e ∷ set_value (is_at (cmp key)) es w) back

  -- so what is done in the part that is for the key is done in all
  module _ (parts : List (List (K × X))) (i : ℕ) (lt : i < length parts) (of : IsRowFor cmp key parts i) where
    abbrev front : List (K × X)
    front = concat_rows (take i parts)

    abbrev back : List (K × X)
    back = concat_rows (drop (suc i) parts)

    pub lookup_in : lookup (is_at (cmp key)) (concat_rows parts) ≡ lookup (is_at (cmp key)) (row_of parts i)
    lookup_in =
        ap (lookup (is_at (cmp key))) (joined_at parts i lt)
        ∙ (lookup_front front (row_of parts i ++ back) of.below ∙ lookup_back back of.above (row_of parts i))

    in_all : (new there all : List (K × X)) → new ≡ there → all ≡ front ++ (there ++ back) → concat_rows (set parts i new) ≡ all
    in_all new there all is whole = joined_set parts i new lt ∙ (ap (λ es. front ++ (es ++ back)) is ∙ sym whole)

    pub same_in : (new : List (K × X)) → new ≡ row_of parts i → concat_rows (set parts i new) ≡ concat_rows parts
    same_in new is = in_all new (row_of parts i) (concat_rows parts) is (joined_at parts i lt)

    pub insert_in : (new : List (K × X)) (v : X) → new ≡ insert_entry cmp (row_of parts i) key v → concat_rows (set parts i new) ≡ insert_entry cmp
        (concat_rows parts) key v
    insert_in new v is =
        in_all new (insert_entry cmp (row_of parts i) key v) (insert_entry cmp (concat_rows parts) key v) is
        (ap (λ es. insert_entry cmp es key v) (joined_at parts i lt)
        ∙ (insert_front front (row_of parts i ++ back) v of.below ∙ ap (λ es. front ++ es) (insert_back back of.above (row_of parts i) v)))

    pub remove_in : (new : List (K × X)) → new ≡ remove_entry (is_at (cmp key)) (row_of parts i)
        → concat_rows (set parts i new) ≡ remove_entry (is_at (cmp key)) (concat_rows parts)
    remove_in new is =
        in_all new (remove_entry (is_at (cmp key)) (row_of parts i)) (remove_entry (is_at (cmp key)) (concat_rows parts)) is
        (ap (remove_entry (is_at (cmp key))) (joined_at parts i lt)
        ∙ (remove_front front (row_of parts i ++ back) of.below ∙ ap (λ es. front ++ es) (remove_back back of.above (row_of parts i))))

    pub set_in : (new : List (K × X)) (w : X) → new ≡ set_value (is_at (cmp key)) (row_of parts i) w
        → concat_rows (set parts i new) ≡ set_value (is_at (cmp key)) (concat_rows parts) w
    set_in new w is =
        in_all new (set_value (is_at (cmp key)) (row_of parts i) w) (set_value (is_at (cmp key)) (concat_rows parts) w) is
        (ap (λ es. set_value (is_at (cmp key)) es w) (joined_at parts i lt)
        ∙ (set_front front (row_of parts i ++ back) w of.below ∙ ap (λ es. front ++ es) (set_back back of.above (row_of parts i) w)))

    -- and no part is empty behind a value that was set
    pub filled_in : AreFilled parts → (read new : List (K × X)) (w : X) → read ≡ row_of parts i → new ≡ set_value (is_at (cmp key)) read w
        → AreFilled (set parts i new)
    filled_in filled read new w same is =
        filled_set parts i new lt (omega (arith, ap length is, length-set_value (is_at (cmp key)) read w, ap length same, filled_row parts i lt filled)) filled
