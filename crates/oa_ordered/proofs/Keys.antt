-- Entries in order, on both sides of a key.
use Rattle.std.proofs.Common.{◌≡◌, ◌∙◌, List, [], ◌∷◌, ◌++◌, false, refl, ap}
use mathlib.Core.Bool.{true≢false}
use Rattle.std.specs.List.{AllByRecursion}
use Rattle.std.specs.List.Sorted.{IsStrictlySortedBy}
use Rattle.std.specs.Map.{keys_of}
use Rattle.std.specs.Ordering.{is_lt, ordering_reverse}
use Rattle.std.specs.Cmp.{IsTotalOrder}
use Rattle.std.specs.declared.cmp.Ordering.{Ordering}
use Rattle.std.specs.declared.cmp.Ordering.TheVariants.{Less, Equal, Greater}
use Rattle.oa_ordered.specs.Rows.{AllAbove, AllBelow, IsOrdered}

module _ {X : Type 0} (P : X → Type 0) where
  pub all_append : (xs ys : List X) → AllByRecursion P xs → AllByRecursion P ys → AllByRecursion P (xs ++ ys)
  all_append [] ys all more = more
  all_append (x ∷ xs) ys all more = (all.0, all_append xs ys all.1 more)

  pub all_front : (xs ys : List X) → AllByRecursion P (xs ++ ys) → AllByRecursion P xs
  all_front [] ys all = tt
  all_front (x ∷ xs) ys all = (all.0, all_front xs ys all.1)

  pub all_back : (xs ys : List X) → AllByRecursion P (xs ++ ys) → AllByRecursion P ys
  all_back [] ys all = all
  all_back (x ∷ xs) ys all = all_back xs ys all.1

-- a key that is not below another is above all that are below that one
past : {K : Type 0} (cmp : K → K → Ordering) → IsTotalOrder cmp → (key q e : K) → cmp q e ≡ Less → (r : Ordering) → cmp key e ≡ r → is_lt r ≡ false
    → cmp key q ≡ Greater
past cmp total key q e below Less is not = absurd (true≢false not)
past cmp total key q e below Equal is not = total.congr key e q is ∙ (total.antisymm e q ∙ ap ordering_reverse below)
past cmp total key q e below Greater is not =
    let over : cmp e key ≡ Less = total.antisymm e key ∙ ap ordering_reverse is in
    total.antisymm key q ∙ ap ordering_reverse (total.trans q e key below over)

module _ {K X : Type 0} (cmp : K → K → Ordering) where
  -- what holds of all keys holds of those behind, and of the one between
  keys_front : (P : K → Type 0) (front back : List (K × X)) → AllByRecursion P (keys_of (front ++ back)) → AllByRecursion P (keys_of front)
  keys_front P [] back all = tt
  keys_front P (e ∷ front) back all = (all.0, keys_front P front back all.1)

  keys_back : (P : K → Type 0) (front back : List (K × X)) → AllByRecursion P (keys_of (front ++ back)) → AllByRecursion P (keys_of back)
  keys_back P [] back all = all
  keys_back P (e ∷ front) back all = keys_back P front back all.1

  keys_join : (P : K → Type 0) (front back : List (K × X)) → AllByRecursion P (keys_of front) → AllByRecursion P (keys_of back)
      → AllByRecursion P (keys_of (front ++ back))
  keys_join P [] back all more = more
  keys_join P (e ∷ front) back all more = (all.0, keys_join P front back all.1 more)

  pub ordered_front : (front back : List (K × X)) → IsOrdered cmp (front ++ back) → IsOrdered cmp front
  unfolding IsStrictlySortedBy
  ordered_front [] back rises = tt
  ordered_front (e ∷ front) back rises = (keys_front (λ q. cmp e.0 q ≡ Less) front back rises.0, ordered_front front back rises.1)

  pub ordered_back : (front back : List (K × X)) → IsOrdered cmp (front ++ back) → IsOrdered cmp back
  unfolding IsStrictlySortedBy
  ordered_back [] back rises = rises
  ordered_back (e ∷ front) back rises = ordered_back front back rises.1

  module _ (total : IsTotalOrder cmp) (key : K) where
    -- the keys in front of an entry that is not above the key are below it
    pub below_of : (front : List (K × X)) (e : K × X) (back : List (K × X)) → IsOrdered cmp (front ++ e ∷ back) → is_lt (cmp key e.0) ≡ false
        → AllBelow cmp key front
    unfolding IsStrictlySortedBy
    below_of [] e back rises not = tt
    below_of (f ∷ front) e back rises not =
        (past cmp total key f.0 e.0 (keys_back (λ q. cmp f.0 q ≡ Less) front (e ∷ back) rises.0).0 (cmp key e.0) refl not, below_of front e back rises.1 not)

    above_all : (q : K) (es : List (K × X)) → cmp key q ≡ Less → AllByRecursion (λ k. cmp q k ≡ Less) (keys_of es) → AllAbove cmp key es
    above_all q [] less all = tt
    above_all q (e ∷ es) less all = (total.trans key q e.0 less all.0, above_all q es less all.1)

    -- an entry above the key and those behind it are above it
    pub above_of : (e : K × X) (back : List (K × X)) → IsOrdered cmp (e ∷ back) → cmp key e.0 ≡ Less → AllAbove cmp key (e ∷ back)
    unfolding IsStrictlySortedBy
    above_of e back rises less = (less, above_all e.0 back less rises.0)

    turned : (es : List (K × X)) → AllAbove cmp key es → AllByRecursion (λ q. cmp key q ≡ Less) (keys_of es)
    turned [] all = tt
    turned (e ∷ es) all = (all.0, turned es all.1)

    -- with a new entry between those below its key and those above
    pub ordered_with : (front : List (K × X)) (v : X) (back : List (K × X)) → IsOrdered cmp (front ++ back) → AllBelow cmp key front → AllAbove cmp key back
        → IsOrdered cmp (front ++ (key, v) ∷ back)
    unfolding IsStrictlySortedBy
    ordered_with [] v back rises below above = (turned back above, rises)
    ordered_with (f ∷ front) v back rises below above =
        let less : cmp f.0 key ≡ Less = total.antisymm f.0 key ∙ ap ordering_reverse below.0 in (
          keys_join (λ q. cmp f.0 q ≡ Less) front ((key, v) ∷ back) (keys_front (λ q. cmp f.0 q ≡ Less) front back rises.0)
              (less, keys_back (λ q. cmp f.0 q ≡ Less) front back rises.0),
          ordered_with front v back rises.1 below.1 above,
        )
