-- What calls of a map do to entries in order, on both sides of a key.
use Rattle.std.proofs.Common.{◌≡◌, List, [], ◌∷◌, ◌++◌, Some, None, refl, ap}
use Rattle.std.specs.Map.{lookup, remove_entry, set_value}
use Rattle.std.specs.BTreeMap.{insert_entry, is_at}
use Rattle.std.specs.declared.cmp.Ordering.{Ordering}
use Rattle.std.specs.declared.cmp.Ordering.TheVariants.{Equal}
use Rattle.oa_ordered.specs.Rows.{AllAbove, AllBelow}

module _ {K X : Type 0} (cmp : K → K → Ordering) (key : K) where
  none_above : (back : List (K × X)) → AllAbove cmp key back → lookup (is_at (cmp key)) back ≡ None
  none_above [] above = refl
  none_above (e ∷ back) above = rw above.0 (none_above back above.1)

  -- where the key has a gap
  pub lookup_gap : (front back : List (K × X)) → AllBelow cmp key front → AllAbove cmp key back → lookup (is_at (cmp key)) (front ++ back) ≡ None
  lookup_gap [] back below above = none_above back above
  lookup_gap (e ∷ front) back below above = rw below.0 (lookup_gap front back below.1 above)

  pub insert_gap : (front : List (K × X)) (v : X) (back : List (K × X)) → AllBelow cmp key front → AllAbove cmp key back
      → insert_entry cmp (front ++ back) key v ≡ front ++ (key, v) ∷ back
  insert_gap [] v [] below above = refl
  insert_gap [] v (e ∷ back) below above = rw above.0 refl
  insert_gap (f ∷ front) v back below above = rw below.0 (ap (λ es. f ∷ es) (insert_gap front v back below.1 above))

  remove_above : (back : List (K × X)) → AllAbove cmp key back → remove_entry (is_at (cmp key)) back ≡ back
  remove_above [] above = refl
  remove_above (e ∷ back) above = rw above.0 (ap (λ es. e ∷ es) (remove_above back above.1))

  pub remove_gap : (front back : List (K × X)) → AllBelow cmp key front → AllAbove cmp key back → remove_entry (is_at (cmp key)) (front ++ back) ≡ front ++ back
  remove_gap [] back below above = remove_above back above
  remove_gap (f ∷ front) back below above = rw below.0 (ap (λ es. f ∷ es) (remove_gap front back below.1 above))

  set_above : (back : List (K × X)) (w : X) → AllAbove cmp key back → set_value (is_at (cmp key)) back w ≡ back
  set_above [] w above = refl
  set_above (e ∷ back) w above = rw above.0 (ap (λ es. e ∷ es) (set_above back w above.1))

  pub set_gap : (front back : List (K × X)) (w : X) → AllBelow cmp key front → AllAbove cmp key back
      → set_value (is_at (cmp key)) (front ++ back) w ≡ front ++ back
  set_gap [] back w below above = set_above back w above
  set_gap (f ∷ front) back w below above = rw below.0 (ap (λ es. f ∷ es) (set_gap front back w below.1 above))

  module _ (e : K × X) (back : List (K × X)) (here : cmp key e.0 ≡ Equal) where
    -- where an entry has the key
    pub lookup_here : (front : List (K × X)) → AllBelow cmp key front → lookup (is_at (cmp key)) (front ++ e ∷ back) ≡ Some e.1
    lookup_here [] below = rw here refl
    lookup_here (f ∷ front) below = rw below.0 (lookup_here front below.1)

    pub insert_here : (front : List (K × X)) (v : X) → AllBelow cmp key front → insert_entry cmp (front ++ e ∷ back) key v ≡ front ++ (e.0, v) ∷ back
    insert_here [] v below = rw here refl
    insert_here (f ∷ front) v below = rw below.0 (ap (λ es. f ∷ es) (insert_here front v below.1))

    pub set_here : (front : List (K × X)) (v : X) → AllBelow cmp key front → set_value (is_at (cmp key)) (front ++ e ∷ back) v ≡ front ++ (e.0, v) ∷ back
    set_here [] v below = rw here refl
    set_here (f ∷ front) v below = rw below.0 (ap (λ es. f ∷ es) (set_here front v below.1))

    pub remove_here : (front : List (K × X)) → AllBelow cmp key front → remove_entry (is_at (cmp key)) (front ++ e ∷ back) ≡ front ++ back
    remove_here [] below = rw here refl
    remove_here (f ∷ front) below = rw below.0 (ap (λ es. f ∷ es) (remove_here front below.1))
