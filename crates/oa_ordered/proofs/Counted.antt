-- The order and the number of entries, behind calls of a map.
use Rattle.std.proofs.Common.{◌≡◌, ◌∙◌, ◌+◌, ◌<◌, ◌^◌, ◌-◌, ℕ, Result, Ok, Err, OnOk, OnErr, suc, Bool, true, false, cond, List, [], ◌∷◌, Option, Some, None}
use Rattle.std.proofs.Common.{length, refl, sym, ap, subst, arith}
use mathlib.Core.Bool.{true≢false}
use Rattle.std.specs.List.Sorted.{IsStrictlySortedBy}
use Rattle.std.specs.List.{AllByRecursion}
use Rattle.std.specs.Option.{is_some}
use Rattle.std.specs.Map.{keys_of, lookup, remove_entry, set_value}
use Rattle.std.specs.BTreeMap.{insert_entry, is_at}
use Rattle.std.specs.Ordering.{is_eq, match_ordering, ordering_reverse}
use Rattle.std.specs.Cmp.{IsTotalOrder}
use Rattle.std.specs.declared.cmp.Ordering.{Ordering}
use Rattle.std.specs.declared.cmp.Ordering.TheVariants.{Less, Equal, Greater}
use Rattle.std.proofs.lemmas.Map.{keys-set_value, length-set_value}
use Rattle.oa_ordered.specs.Rows.{IsOrdered}
use Rattle.oa_ordered.specs.Roots.{IsFilled, IsMap, entries_of}
use Rattle.oa_ordered.specs.declared.root.Root.{Root}
use Rattle.oa_ordered.specs.declared.root.Root.TheVariants.{One}
use Rattle.oa_ordered.proofs.Keys.{above_of, ordered_with}
use Rattle.oa_ordered.proofs.Split.{lookup_gap}

some_is_not_none : {X : Type 0} (x : X) (r : Option X) → r ≡ Some x → r ≡ None → ⊥
some_is_not_none x r is none = true≢false (ap is_some (sym is ∙ none))

pub none_if : {X : Type 0} (r : Option X) → is_some r ≡ false → r ≡ None
none_if (Some x) not = absurd (true≢false not)
none_if None not = refl

pub some_if : {X : Type 0} (r : Option X) → is_some r ≡ true → (x : X) × (r ≡ Some x)
some_if (Some x) is = (x, refl)
some_if None is = absurd (true≢false (sym is))

module _ {K X : Type 0} (cmp : K → K → Ordering) (total : IsTotalOrder cmp) (key : K) where
  keys_insert : (P : K → Type 0) (es : List (K × X)) (v : X) → AllByRecursion P (keys_of es) → P key → AllByRecursion P (keys_of (insert_entry cmp es key v))
  keys_insert P [] v all more = (more, tt)
  keys_insert P (e ∷ es) v all more = by_case (cmp key e.0) (keys_insert P es v all.1 more)
    where
      by_case : (o : Ordering) → AllByRecursion P (keys_of (insert_entry cmp es key v))
          → AllByRecursion P (keys_of (match_ordering o ((key, v) ∷ e ∷ es) ((e.0, v) ∷ es) (e ∷ insert_entry cmp es key v)))
      by_case Less rest = (more, all)
      by_case Equal rest = all
      by_case Greater rest = (all.0, rest)

  pub insert_ordered : (es : List (K × X)) (v : X) → IsOrdered cmp es → IsOrdered cmp (insert_entry cmp es key v)
  unfolding IsStrictlySortedBy
  insert_ordered [] v rises = (tt, tt)
  insert_ordered (e ∷ es) v rises = by_case (cmp key e.0) refl (insert_ordered es v rises.1)
    where
      by_case : (o : Ordering) → cmp key e.0 ≡ o → IsOrdered cmp (insert_entry cmp es key v)
          → IsOrdered cmp (match_ordering o ((key, v) ∷ e ∷ es) ((e.0, v) ∷ es) (e ∷ insert_entry cmp es key v))
      by_case Less is rest = ordered_with cmp total key [] v (e ∷ es) rises tt (above_of cmp total key e es rises is)
      by_case Equal is rest = rises
      by_case Greater is rest = (keys_insert (λ q. cmp e.0 q ≡ Less) es v rises.0 (total.antisymm e.0 key ∙ ap ordering_reverse is), rest)

  pub insert_more : (es : List (K × X)) (v : X) → lookup (is_at (cmp key)) es ≡ None → length (insert_entry cmp es key v) ≡ length es + 1
  insert_more [] v none = refl
  insert_more (e ∷ es) v none = by_case (cmp key e.0) (insert_more es v) none
    where
      by_case : (o : Ordering) → (lookup (is_at (cmp key)) es ≡ None → length (insert_entry cmp es key v) ≡ length es + 1)
          → cond (is_eq o) (Some e.1) (lookup (is_at (cmp key)) es) ≡ None
          → length (match_ordering o ((key, v) ∷ e ∷ es) ((e.0, v) ∷ es) (e ∷ insert_entry cmp es key v)) ≡ suc (length es) + 1
      by_case Less rest absent = omega arith
      by_case Equal rest absent = absurd (some_is_not_none e.1 (Some e.1) refl absent)
      by_case Greater rest absent = omega (arith, rest absent)

  pub insert_same : (es : List (K × X)) (v x : X) → IsOrdered cmp es → lookup (is_at (cmp key)) es ≡ Some x → length (insert_entry cmp es key v) ≡ length es
  unfolding IsStrictlySortedBy
  insert_same [] v x rises some = absurd (some_is_not_none x None some refl)
  insert_same (e ∷ es) v x rises some = by_case (cmp key e.0) refl (insert_same es v x rises.1) some
    where
      by_case : (o : Ordering) → cmp key e.0 ≡ o → (lookup (is_at (cmp key)) es ≡ Some x → length (insert_entry cmp es key v) ≡ length es)
          → cond (is_eq o) (Some e.1) (lookup (is_at (cmp key)) es) ≡ Some x
          → length (match_ordering o ((key, v) ∷ e ∷ es) ((e.0, v) ∷ es) (e ∷ insert_entry cmp es key v)) ≡ suc (length es)
      by_case Less is rest found =
          absurd (some_is_not_none x (lookup (is_at (cmp key)) es) found (lookup_gap cmp key [] es tt (above_of cmp total key e es rises is).1))
      by_case Equal is rest found = refl
      by_case Greater is rest found = ap suc (rest found)

  insert_some : (es : List (K × X)) (v : X) → 0 < length (insert_entry cmp es key v)
  insert_some [] v = omega arith
  insert_some (e ∷ es) v = by_case (cmp key e.0)
    where
      by_case : (o : Ordering) → 0 < length (match_ordering o ((key, v) ∷ e ∷ es) ((e.0, v) ∷ es) (e ∷ insert_entry cmp es key v))
      by_case Less = omega arith
      by_case Equal = omega arith
      by_case Greater = omega arith

  -- there are entries, whatever a call answered that would set one
  pub some_after : {T E : Type 0} (r : Result T E) (old new : List (K × X)) (v : X) → 0 < length old → OnOk r (new ≡ insert_entry cmp old key v)
      → OnErr r (new ≡ old) → 0 < length new
  some_after (Ok x) old new v some ok err = rw ok (insert_some old v)
  some_after (Err e) old new v some ok err = rw err some

  keys_remove : (P : K → Type 0) (es : List (K × X)) → AllByRecursion P (keys_of es) → AllByRecursion P (keys_of (remove_entry (is_at (cmp key)) es))
  keys_remove P [] all = tt
  keys_remove P (e ∷ es) all = by_case (is_at (cmp key) e.0) (keys_remove P es all.1)
    where
      by_case : (b : Bool) → AllByRecursion P (keys_of (remove_entry (is_at (cmp key)) es))
          → AllByRecursion P (keys_of (cond b es (e ∷ remove_entry (is_at (cmp key)) es)))
      by_case true rest = all.1
      by_case false rest = (all.0, rest)

  pub remove_ordered : (es : List (K × X)) → IsOrdered cmp es → IsOrdered cmp (remove_entry (is_at (cmp key)) es)
  unfolding IsStrictlySortedBy
  remove_ordered [] rises = tt
  remove_ordered (e ∷ es) rises = by_case (is_at (cmp key) e.0) (remove_ordered es rises.1)
    where
      by_case : (b : Bool) → IsOrdered cmp (remove_entry (is_at (cmp key)) es) → IsOrdered cmp (cond b es (e ∷ remove_entry (is_at (cmp key)) es))
      by_case true rest = rises.1
      by_case false rest = (keys_remove (λ q. cmp e.0 q ≡ Less) es rises.0, rest)

  pub remove_less : (es : List (K × X)) (x : X) → lookup (is_at (cmp key)) es ≡ Some x → length es ≡ length (remove_entry (is_at (cmp key)) es) + 1
  remove_less [] x some = absurd (some_is_not_none x None some refl)
  remove_less (e ∷ es) x some = by_case (is_at (cmp key) e.0) (remove_less es x) some
    where
      by_case : (b : Bool) → (lookup (is_at (cmp key)) es ≡ Some x → length es ≡ length (remove_entry (is_at (cmp key)) es) + 1)
          → cond b (Some e.1) (lookup (is_at (cmp key)) es) ≡ Some x → suc (length es) ≡ length (cond b es (e ∷ remove_entry (is_at (cmp key)) es)) + 1
      by_case true rest found = omega arith
      by_case false rest found = omega (arith, rest found)

  pub remove_none : (es : List (K × X)) → lookup (is_at (cmp key)) es ≡ None → remove_entry (is_at (cmp key)) es ≡ es
  remove_none [] none = refl
  remove_none (e ∷ es) none = by_case (is_at (cmp key) e.0) (remove_none es) none
    where
      by_case : (b : Bool) → (lookup (is_at (cmp key)) es ≡ None → remove_entry (is_at (cmp key)) es ≡ es)
          → cond b (Some e.1) (lookup (is_at (cmp key)) es) ≡ None → cond b es (e ∷ remove_entry (is_at (cmp key)) es) ≡ e ∷ es
      by_case true rest absent = absurd (some_is_not_none e.1 (Some e.1) refl absent)
      by_case false rest absent = ap (λ all. e ∷ all) (rest absent)

  -- a map, in another root behind a call
  module _ (root new : Root K X) (len : ℕ) (map : IsMap cmp root len) (filled : IsFilled new) where
    pub map_set : (w : X) → entries_of new ≡ set_value (is_at (cmp key)) (entries_of root) w → IsMap cmp new len
    map_set w is = record {
      ordered = subst (IsStrictlySortedBy cmp) (sym (ap keys_of is ∙ keys-set_value (is_at (cmp key)) (entries_of root) w)) map.ordered;
      filled = filled;
      count = map.count ∙ sym (ap length is ∙ length-set_value (is_at (cmp key)) (entries_of root) w);
      few = map.few;
    }

    pub map_same : entries_of new ≡ entries_of root → IsMap cmp new len
    map_same is = record {
      ordered = subst (IsOrdered cmp) (sym is) map.ordered;
      filled = filled;
      count = map.count ∙ sym (ap length is);
      few = map.few;
    }

    pub map_changed : (v x : X) → entries_of new ≡ insert_entry cmp (entries_of root) key v → lookup (is_at (cmp key)) (entries_of root) ≡ Some x
        → IsMap cmp new len
    map_changed v x is there = record {
      ordered = subst (IsOrdered cmp) (sym is) (insert_ordered (entries_of root) v map.ordered);
      filled = filled;
      count = map.count ∙ sym (ap length is ∙ insert_same (entries_of root) v x map.ordered there);
      few = map.few;
    }

    pub map_inserted : (v : X) → len < 2 ^ 63 - 1 → entries_of new ≡ insert_entry cmp (entries_of root) key v
        → lookup (is_at (cmp key)) (entries_of root) ≡ None → IsMap cmp new (len + 1)
    map_inserted v most is absent = record {
      ordered = subst (IsOrdered cmp) (sym is) (insert_ordered (entries_of root) v map.ordered);
      filled = filled;
      count = omega (arith, map.count, ap length is, insert_more (entries_of root) v absent);
      few = omega (arith, map.few, most);
    }

    pub map_removed : (x : X) → entries_of new ≡ remove_entry (is_at (cmp key)) (entries_of root) → lookup (is_at (cmp key)) (entries_of root) ≡ Some x
        → IsMap cmp new (len - 1)
    map_removed x is there = record {
      ordered = subst (IsOrdered cmp) (sym is) (remove_ordered (entries_of root) map.ordered);
      filled = filled;
      count = omega (arith, map.count, ap length is, remove_less (entries_of root) x there);
      few = omega (arith, map.few);
    }

pub no_map : {K X : Type 0} (cmp : K → K → Ordering) → IsMap {K = K} {X = X} cmp (One []) 0
unfolding IsStrictlySortedBy
no_map cmp = record { ordered = tt; filled = tt; count = refl; few = omega arith }
