-- Look-ups by keys that an order does not tell apart, and keys in order.
use Rattle.std.proofs.Common.{◌≡◌, Bool, true, false, true≢false, cond, List, [], ◌∷◌, Option, Some, None, refl, sym, ap, ◌∙◌}
use Rattle.std.specs.Prelude.{if◌then◌else◌}
use Rattle.std.specs.BTreeMap.{insert_entry, is_at}
use Rattle.std.specs.Cmp.{IsEquivalence, IsTotalOrder}
use Rattle.std.specs.List.{AllByRecursion}
use Rattle.std.specs.List.Sorted.{IsStrictlySortedBy}
use Rattle.std.specs.Map.{keys_of, lookup, remove_entry, set_value}
use Rattle.std.specs.Ordering.{eq_by_cmp, is_eq, match_ordering, ordering_reverse}
use Rattle.std.specs.declared.cmp.Ordering.{Ordering}
use Rattle.std.specs.declared.cmp.Ordering.TheVariants.{Less, Equal, Greater}
use Rattle.std.proofs.lemmas.Cmp.{eq_by_cmp_equiv}

-- ---- look-ups by keys that an order does not tell apart
module _ {K : Type 0} {R : K → K → Ordering} (total : IsTotalOrder R) where
  -- equal keys find the same
  alike : (one two key : K) → is_eq (R one two) ≡ true → is_eq (R one key) ≡ is_eq (R two key)
  alike one two key same = (eq_by_cmp_equiv total).congr one two key same

  apart : (one two key : K) → is_eq (R one two) ≡ false → is_eq (R one key) ≡ true → is_eq (R two key) ≡ false
  apart one two key other here = by (is_eq (R two key)) refl
    where
      laws : IsEquivalence (eq_by_cmp R)
      laws = eq_by_cmp_equiv total

      by : (b : Bool) → is_eq (R two key) ≡ b → is_eq (R two key) ≡ false
      by false e = e
      by true e =
          let back : is_eq (R key two) ≡ true = laws.symm key two ∙ e in
          let same : is_eq (R one two) ≡ is_eq (R key two) = laws.congr one key two here in
          absurd (true≢false (sym back ∙ sym same ∙ other))

module _ {K X : Type 0} {R : K → K → Ordering} (total : IsTotalOrder R) where
  abbrev due : X → Bool → Option X → Option X
  due new b rest = if b then Some new else rest

  pub same_found : (one two : K) (es : List (K × X)) → is_eq (R one two) ≡ true → lookup (is_at (R one)) es ≡ lookup (is_at (R two)) es
  same_found one two [] same = refl
  same_found one two (e ∷ es) same = ap (λ (b : Bool). cond b (Some e.1) (lookup (is_at (R one)) es)) (alike total one two e.0 same)
      ∙ ap (λ (o : Option X). cond (is_eq (R two e.0)) (Some e.1) o) (same_found one two es same)

  -- where a value is set
  pub found_set : (set key : K) (es : List (K × X)) (old new : X) → lookup (is_at (R set)) es ≡ Some old
      → lookup (is_at (R key)) (set_value (is_at (R set)) es new) ≡ (if is_eq (R set key) then Some new else lookup (is_at (R key)) es)
  found_set set key [] old new found = absurd cc
  found_set set key (e ∷ es) old new found = by (is_eq (R set e.0)) refl found (λ f. found_set set key es old new f)
    where
      laws : IsEquivalence (eq_by_cmp R)
      laws = eq_by_cmp_equiv total

      by : (b : Bool) → is_eq (R set e.0) ≡ b → cond b (Some e.1) (lookup (is_at (R set)) es) ≡ Some old
          → (lookup (is_at (R set)) es ≡ Some old → lookup (is_at (R key)) (set_value (is_at (R set)) es new) ≡ due new (is_eq (R set key))
          (lookup (is_at (R key)) es))
          → lookup (is_at (R key)) (cond b ((e.0, new) ∷ es) (e ∷ set_value (is_at (R set)) es new)) ≡ due new (is_eq (R set key))
          (cond (is_eq (R key e.0)) (Some e.1) (lookup (is_at (R key)) es))
      by true here f rest = at (is_eq (R set key)) refl
        where
          at : (c : Bool) → is_eq (R set key) ≡ c → cond (is_eq (R key e.0)) (Some new) (lookup (is_at (R key)) es) ≡ due new c
              (cond (is_eq (R key e.0)) (Some e.1) (lookup (is_at (R key)) es))
          at true same = ap (λ (b : Bool). cond b (Some new) (lookup (is_at (R key)) es)) (sym (alike total set key e.0 same) ∙ here)
          at false other =
              let no = apart total set key e.0 other here in
              ap (λ (b : Bool). cond b (Some new) (lookup (is_at (R key)) es)) no ∙ sym (ap (λ (b : Bool). cond b (Some e.1) (lookup (is_at (R key)) es)) no)
      by false other f rest = ap (λ (o : Option X). cond (is_eq (R key e.0)) (Some e.1) o) (rest f) ∙ at (is_eq (R set key)) refl
        where
          at : (c : Bool) → is_eq (R set key) ≡ c → cond (is_eq (R key e.0)) (Some e.1) (due new c (lookup (is_at (R key)) es)) ≡ due new c
              (cond (is_eq (R key e.0)) (Some e.1) (lookup (is_at (R key)) es))
          at true same = ap (λ (b : Bool). cond b (Some e.1) (Some new)) (sym (alike total set key e.0 same) ∙ other)
          at false other' = refl

  -- where one is put
  pub found_put : (put key : K) (es : List (K × X)) (new : X)
      → lookup (is_at (R key)) (insert_entry R es put new) ≡ (if is_eq (R put key) then Some new else lookup (is_at (R key)) es)
  found_put put key [] new = ap (λ (b : Bool). cond b (Some new) None) ((eq_by_cmp_equiv total).symm key put)
  found_put put key (e ∷ es) new = by (R put e.0) refl (found_put put key es new)
    where
      laws : IsEquivalence (eq_by_cmp R)
      laws = eq_by_cmp_equiv total

      by : (o : Ordering) → R put e.0 ≡ o → lookup (is_at (R key)) (insert_entry R es put new) ≡ due new (is_eq (R put key)) (lookup (is_at (R key)) es)
          → lookup (is_at (R key)) (match_ordering o ((put, new) ∷ e ∷ es) ((e.0, new) ∷ es) (e ∷ insert_entry R es put new))
          ≡ due new (is_eq (R put key)) (cond (is_eq (R key e.0)) (Some e.1) (lookup (is_at (R key)) es))
      by Less at rest = ap (λ (b : Bool). due new b (cond (is_eq (R key e.0)) (Some e.1) (lookup (is_at (R key)) es))) (laws.symm key put)
      by Equal at rest = on (is_eq (R put key)) refl
        where
          here : is_eq (R put e.0) ≡ true
          here = ap is_eq at

          on : (c : Bool) → is_eq (R put key) ≡ c → cond (is_eq (R key e.0)) (Some new) (lookup (is_at (R key)) es) ≡ due new c
              (cond (is_eq (R key e.0)) (Some e.1) (lookup (is_at (R key)) es))
          on true same = ap (λ (b : Bool). cond b (Some new) (lookup (is_at (R key)) es)) (sym (alike total put key e.0 same) ∙ here)
          on false other =
              let no = apart total put key e.0 other here in
              ap (λ (b : Bool). cond b (Some new) (lookup (is_at (R key)) es)) no ∙ sym (ap (λ (b : Bool). cond b (Some e.1) (lookup (is_at (R key)) es)) no)
      by Greater at rest = ap (λ (o : Option X). cond (is_eq (R key e.0)) (Some e.1) o) rest ∙ on (is_eq (R put key)) refl
        where
          other : is_eq (R put e.0) ≡ false
          other = ap is_eq at

          on : (c : Bool) → is_eq (R put key) ≡ c → cond (is_eq (R key e.0)) (Some e.1) (due new c (lookup (is_at (R key)) es)) ≡ due new c
              (cond (is_eq (R key e.0)) (Some e.1) (lookup (is_at (R key)) es))
          on true same = ap (λ (b : Bool). cond b (Some e.1) (Some new)) (sym (alike total put key e.0 same) ∙ other)
          on false other' = refl

-- ---- a value that is set twice, or back
module _ {K X : Type 0} (test : K → Bool) where
  pub found_again : (es : List (K × X)) (old new : X) → lookup test es ≡ Some old → lookup test (set_value test es new) ≡ Some new
  found_again [] old new found = absurd cc
  found_again (e ∷ es) old new found = by (test e.0) refl found (found_again es old new)
    where
      by : (b : Bool) → test e.0 ≡ b → cond b (Some e.1) (lookup test es) ≡ Some old
          → (lookup test es ≡ Some old → lookup test (set_value test es new) ≡ Some new)
          → lookup test (cond b ((e.0, new) ∷ es) (e ∷ set_value test es new)) ≡ Some new
      by true is now rest = ap (λ (b : Bool). cond b (Some new) (lookup test es)) is
      by false is now rest = ap (λ (b : Bool). cond b (Some e.1) (lookup test (set_value test es new))) is ∙ rest now

  pub set_twice : (es : List (K × X)) (one two : X) → set_value test (set_value test es one) two ≡ set_value test es two
  set_twice [] one two = refl
  set_twice (e ∷ es) one two = by (test e.0) refl (set_twice es one two)
    where
      by : (b : Bool) → test e.0 ≡ b → set_value test (set_value test es one) two ≡ set_value test es two
          → set_value test (cond b ((e.0, one) ∷ es) (e ∷ set_value test es one)) two ≡ cond b ((e.0, two) ∷ es) (e ∷ set_value test es two)
      by true is rest = ap (λ (b : Bool). cond b ((e.0, two) ∷ es) ((e.0, one) ∷ set_value test es two)) is
      by false is rest =
          ap (λ (b : Bool). cond b ((e.0, two) ∷ set_value test es one) (e ∷ set_value test (set_value test es one) two)) is
          ∙ ap (λ (l : List (K × X)). e ∷ l) rest

-- ---- keys in order
module _ {K : Type 0} {R : K → K → Ordering} (total : IsTotalOrder R) where
  abbrev pub Above : K → List K → Type 0
  Above k keys = AllByRecursion (λ y. R k y ≡ Less) keys

  pub above_all : (one two : K) (keys : List K) → R one two ≡ Less → Above two keys → Above one keys
  above_all one two [] less all = all
  above_all one two (key ∷ keys) less all = (total.trans one two key less all.0, above_all one two keys less all.1)

module _ {K X : Type 0} {R : K → K → Ordering} (total : IsTotalOrder R) where
  -- a key below all others is none of them
  pub none_above : (key : K) (es : List (K × X)) → Above total key (keys_of es) → lookup (is_at (R key)) es ≡ None
  none_above key [] all = refl
  none_above key (e ∷ es) all = ap (λ (o : Ordering). cond (is_eq o) (Some e.1) (lookup (is_at (R key)) es)) all.0 ∙ none_above key es all.1

  above_removed : (test : K → Bool) (k : K) (es : List (K × X)) → Above total k (keys_of es) → Above total k (keys_of (remove_entry test es))
  above_removed test k [] all = all
  above_removed test k (e ∷ es) all = by (test e.0) (above_removed test k es all.1)
    where
      by : (b : Bool) → Above total k (keys_of (remove_entry test es)) → Above total k (keys_of (cond b es (e ∷ remove_entry test es)))
      by true rest = all.1
      by false rest = (all.0, rest)

  pub sorted_removed : (test : K → Bool) (es : List (K × X)) → IsStrictlySortedBy R (keys_of es) → IsStrictlySortedBy R (keys_of (remove_entry test es))
  unfolding IsStrictlySortedBy
  sorted_removed test [] sorted = sorted
  sorted_removed test (e ∷ es) sorted = by (test e.0) (above_removed test e.0 es sorted.0, sorted_removed test es sorted.1)
    where
      by : (b : Bool) → IsStrictlySortedBy R (keys_of (e ∷ remove_entry test es)) → IsStrictlySortedBy R (keys_of (cond b es (e ∷ remove_entry test es)))
      by true rest = sorted.1
      by false rest = rest

  above_put : (k put : K) (new : X) (es : List (K × X)) → R k put ≡ Less → Above total k (keys_of es) → Above total k (keys_of (insert_entry R es put new))
  above_put k put new [] less all = (less, tt)
  above_put k put new (e ∷ es) less all = by (R put e.0) (above_put k put new es less all.1)
    where
      by : (o : Ordering) → Above total k (keys_of (insert_entry R es put new))
          → Above total k (keys_of (match_ordering o ((put, new) ∷ e ∷ es) ((e.0, new) ∷ es) (e ∷ insert_entry R es put new)))
      by Less rest = (less, all)
      by Equal rest = all
      by Greater rest = (all.0, rest)

  put_sorted : (put : K) (new : X) (e : K × X) (es : List (K × X)) → IsStrictlySortedBy R (keys_of (e ∷ es))
      → IsStrictlySortedBy R (keys_of (insert_entry R es put new)) → (o : Ordering) → R put e.0 ≡ o
      → IsStrictlySortedBy R (keys_of (match_ordering o ((put, new) ∷ e ∷ es) ((e.0, new) ∷ es) (e ∷ insert_entry R es put new)))
  unfolding IsStrictlySortedBy
  put_sorted put new e es sorted rest Less at = ((at, above_all total put e.0 (keys_of es) at sorted.0), sorted)
  put_sorted put new e es sorted rest Equal at = sorted
  put_sorted put new e es sorted rest Greater at = (above_put e.0 put new es (total.antisymm e.0 put ∙ ap ordering_reverse at) sorted.0, rest)

  pub sorted_put : (put : K) (new : X) (es : List (K × X)) → IsStrictlySortedBy R (keys_of es) → IsStrictlySortedBy R (keys_of (insert_entry R es put new))
  unfolding IsStrictlySortedBy
  sorted_put put new [] sorted = (tt, tt)
  sorted_put put new (e ∷ es) sorted = put_sorted put new e es sorted (sorted_put put new es sorted.1) (R put e.0) refl
