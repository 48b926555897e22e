-- Results for the entries of a list, one after another: those that a loop has made, followed by those to come, are the
-- results for all.
use Rattle.std.proofs.Common.{◌≡◌, ◌+◌, ℕ, List, [], ◌∷◌, ◌++◌, drop, Result, Ok, Err, refl, sym, ap, ◌∙◌, append_assoc}
use Rattle.std.proofs.lemmas.List.{append-nil}
use Rattle.oa_bind.specs.declared.fault.BindFault.{BindFault}
use Rattle.oa_bind.specs.promise.Refusals.{◌>>=◌, each_at}

abbrev pub with_front : {Y : Type 0} → List Y → Result (List Y) BindFault → Result (List Y) BindFault
with_front front rest = rest >>= λ ys. Ok (front ++ ys)

module _ {X Y : Type 0} (answer : ℕ → X → Result Y BindFault) where
  regroup : (front : List Y) (y : Y) (r : Result (List Y) BindFault) → with_front front (r >>= λ ys. Ok (y ∷ ys)) ≡ with_front (front ++ y ∷ []) r
  regroup front y (Ok ys) = ap Ok (sym (simp append_assoc))
  regroup front y (Err fault) = refl

  pub each_goes_on : (front : List Y) (xs : List X) (i : ℕ) (x : X) (y : Y) (total : Result (List Y) BindFault) → drop i xs ≡ x ∷ drop (i + 1) xs
      → answer i x ≡ Ok y
      → with_front front (each_at answer i (drop i xs)) ≡ total → with_front (front ++ y ∷ []) (each_at answer (i + 1) (drop (i + 1) xs)) ≡ total
  unfolding each_at
  each_goes_on front xs i x y total here is so_far =
      let one : with_front front (each_at answer i (drop i xs)) ≡ with_front (front ++ y ∷ []) (each_at answer (i + 1) (drop (i + 1) xs)) =
      rw (here, is) (regroup front y (each_at answer (i + 1) (drop (i + 1) xs))) in
      sym one ∙ so_far

  pub each_breaks : (front : List Y) (xs : List X) (i : ℕ) (x : X) (fault : BindFault) (total : Result (List Y) BindFault) → drop i xs ≡ x ∷ drop (i + 1) xs
      → answer i x ≡ Err fault
      → with_front front (each_at answer i (drop i xs)) ≡ total → total ≡ Err fault
  unfolding each_at
  each_breaks front xs i x fault total here is so_far =
      let one : with_front front (each_at answer i (drop i xs)) ≡ Err fault = rw (here, is) refl in
      sym so_far ∙ one

  pub each_is_done : (front : List Y) (xs : List X) (i : ℕ) (total : Result (List Y) BindFault) → drop i xs ≡ []
      → with_front front (each_at answer i (drop i xs)) ≡ total → total ≡ Ok front
  unfolding each_at
  each_is_done front xs i total none so_far =
      let one : with_front front (each_at answer i (drop i xs)) ≡ Ok front = rw none (ap Ok (append-nil front)) in
      sym so_far ∙ one
