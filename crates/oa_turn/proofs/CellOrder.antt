-- The order of cells, and lists in an order with one more or one fewer.
use Rattle.std.proofs.Common.{◌≡◌, Bool, true, false, List, [], ◌∷◌, refl, sym, ap, ◌∙◌}
use Rattle.std.specs.Prelude.{◌&&◌, ◌||◌, if◌then◌else◌}
use Rattle.std.specs.Cmp.{IsEquivalence, unsigned_tied}
use Rattle.std.specs.List.{list_any}
use Rattle.std.specs.Ordering.{is_eq, match_ordering, nat_cmp, ordering_then}
use Rattle.std.specs.declared.cmp.Ordering.{Ordering}
use Rattle.std.specs.declared.cmp.Ordering.TheVariants.{Less, Equal, Greater}
use Rattle.std.proofs.lemmas.Cmp.{and_equiv, eq_by_cmp_equiv, nat_eq_equiv, on_equiv}
use Rattle.oa_turn.specs.promise.ClientLocks.{cell_cmp, is_cell, with_more, without_first}
use Rattle.oa_table.specs.promise.Places.{place_cmp}
use Rattle.oa_table.specs.Places.{places_total}
use Rattle.oa_table.specs.declared.name.CellName.{CellName}

-- whether two names are those of one cell, as an equality
pub cell_laws : IsEquivalence is_cell
cell_laws = and_equiv (on_equiv (λ (n : CellName). n.object) nat_eq_equiv) (on_equiv (λ (n : CellName). n.place) (eq_by_cmp_equiv places_total))

both_equal : (o p : Ordering) → is_eq (ordering_then o p) ≡ is_eq o && is_eq p
both_equal Less p = refl
both_equal Equal p = refl
both_equal Greater p = refl

-- the order tells apart what are two cells
pub is_equal : (one two : CellName) → is_eq (cell_cmp one two) ≡ is_cell one two
is_equal one two =
    both_equal (nat_cmp one.object two.object) (place_cmp one.place two.place)
    ∙ ap (λ (b : Bool). b && is_eq (place_cmp one.place two.place)) (unsigned_tied one.object two.object)

pub is_cell_by : (one two : CellName) (o : Ordering) → cell_cmp one two ≡ o → is_cell two one ≡ is_eq o
is_cell_by one two o e = cell_laws.symm two one ∙ sym (is_equal one two) ∙ ap is_eq e

-- ---- one more
module _ {X : Type 0} (cmp : X → X → Ordering) where
  pub more_at : (new x : X) (xs : List X) (o : Ordering) → cmp new x ≡ o → with_more cmp new (x ∷ xs) ≡ match_ordering o (new ∷ x ∷ xs) (x ∷ x ∷ xs)
      (x ∷ with_more cmp new xs)
  more_at new x xs o e = ap (λ (r : Ordering). match_ordering r (new ∷ x ∷ xs) (x ∷ x ∷ xs) (x ∷ with_more cmp new xs)) e

-- ---- one fewer
module _ {X : Type 0} (test : X → Bool) where
  pub fewer_at : (x : X) (xs : List X) (b : Bool) → test x ≡ b → without_first test (x ∷ xs) ≡ (if b then xs else x ∷ without_first test xs)
  fewer_at x xs b e = ap (λ (c : Bool). if c then xs else x ∷ without_first test xs) e

  pub any_at : (x : X) (xs : List X) (b : Bool) → test x ≡ b → list_any test (x ∷ xs) ≡ (b || list_any test xs)
  any_at x xs b e = ap (λ (c : Bool). c || list_any test xs) e

  pub none_fewer : (xs : List X) → list_any test xs ≡ false → without_first test xs ≡ xs
  none_fewer [] none = refl
  none_fewer (x ∷ xs) none = by (test x) none (none_fewer xs)
    where
      by : (b : Bool) → (b || list_any test xs) ≡ false → (list_any test xs ≡ false → without_first test xs ≡ xs)
          → (if b then xs else x ∷ without_first test xs) ≡ x ∷ xs
      by true is rest = absurd cc
      by false is rest = ap (λ (l : List X). x ∷ l) (rest is)
