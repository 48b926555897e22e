-- What each client brings, among all.
use Rattle.std.proofs.Common.{◌≡◌, ℕ, Bool, true, false, if◌then◌else◌, List, [], ◌∷◌, ◌++◌, refl, sym, ap, ◌∙◌, eqb}
use Rattle.std.proofs.lemmas.Bool.{eqb-true, eq-eqb}
use Rattle.oa_mux.specs.promise.Marks.{StreamPiece, Tagged, Of, Flush, States, tag_all, with_state_at}
use Rattle.oa_mux.specs.Marks.{if_own, own}
use Rattle.oa_mux.specs.promise.Readers.{Reads, asked_in}
use Rattle.oa_mux.specs.Readers.{brought_in}

own_named_same : {X : Type 0} (c d : ℕ) (xs : List X) → eqb d c ≡ true → own c (tag_all d xs) ≡ xs
unfolding own tag_all
own_named_same c d [] e = refl
own_named_same c d (x ∷ xs) e = rw (e, own_named_same c d xs e) refl

own_named_other : {X : Type 0} (c d : ℕ) (xs : List X) → eqb d c ≡ false → own c (tag_all d xs) ≡ []
unfolding own tag_all
own_named_other c d [] e = refl
own_named_other c d (x ∷ xs) e = rw (e, own_named_other c d xs e) refl

cons_if : {X : Type 0} (b : Bool) (x : X) (xs ys : List X) → if_own b x (xs ++ ys) ≡ if_own b x xs ++ ys
cons_if true x xs ys = refl
cons_if false x xs ys = refl

own_append : {X : Type 0} (c : ℕ) (xs ys : List (Tagged X)) → own c (xs ++ ys) ≡ own c xs ++ own c ys
unfolding own
own_append c [] ys = refl
own_append c (Of d x ∷ xs) ys = ap (if_own (eqb d c) x) (own_append c xs ys) ∙ cons_if (eqb d c) x (own c xs) (own c ys)
own_append c (Flush ∷ xs) ys = own_append c xs ys

module _ {Z : Type 0} (reads : Reads Z) where
  one_step : (at new other : Z) (p : StreamPiece) (d c : ℕ) (rest : List StreamPiece) (b : Bool) → eqb d c ≡ b → (reads at p).1 ≡ new → (b ≡ true → other ≡ at)
      → own c (tag_all d (reads at p).0) ++ brought_in reads (if b then new else other) rest ≡ brought_in reads other (if_own b p rest)
  unfolding brought_in
  one_step at new other p d c rest true e n s = rw (own_named_same c d (reads at p).0 e, s refl, sym n) refl
  one_step at new other p d c rest false e n s = rw (own_named_other c d (reads at p).0 e) refl

  pub each : (states : States Z) (stream : List (Tagged StreamPiece)) (c : ℕ) → own c (asked_in reads states stream) ≡ brought_in reads (states c)
      (own c stream)
  unfolding asked_in own brought_in
  each states [] c = refl
  each states (Of d p ∷ rest) c =
      own_append c (tag_all d (reads (states d) p).0) (asked_in reads (with_state_at d (reads (states d) p).1 states) rest)
      ∙ ap (λ l. own c (tag_all d (reads (states d) p).0) ++ l) (each (with_state_at d (reads (states d) p).1 states) rest c)
      ∙ one_step (states d) (reads (states d) p).1 (states c) p d c (own c rest) (eqb d c) refl refl (λ e. ap states (sym (eqb-true d c e)))
  each states (Flush ∷ rest) c = each states rest c

  named_all : {X : Type 0} (c : ℕ) (xs ys : List X) → tag_all c (xs ++ ys) ≡ tag_all c xs ++ tag_all c ys
  unfolding tag_all
  named_all c [] ys = refl
  named_all c (x ∷ xs) ys = ap (λ l. Of c x ∷ l) (named_all c xs ys)

  pub at_self : (c : ℕ) (at : Z) (states : States Z) → with_state_at c at states c ≡ at
  at_self c at states = let e = eq-eqb c c refl in rw e refl

  pub barrier : (states : States Z) (c : ℕ) (stream : List StreamPiece) → asked_in reads states (tag_all c stream) ≡ tag_all c
      (brought_in reads (states c) stream)
  unfolding asked_in brought_in tag_all
  barrier states c [] = refl
  barrier states c (p ∷ ps) =
      ap (λ l. tag_all c (reads (states c) p).0 ++ l) (barrier (with_state_at c (reads (states c) p).1 states) c ps
      ∙ ap (λ (z : Z). tag_all c (brought_in reads z ps)) (at_self c (reads (states c) p).1 states))
      ∙ sym (named_all c (reads (states c) p).0 (brought_in reads (reads (states c) p).1 ps))
