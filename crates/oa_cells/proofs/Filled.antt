-- The elements that a closure returned, with their indices.
use Rattle.std.proofs.Common.{◌≡◌, refl, sym, ap, subst, ◌∙◌, ℕ, zero, suc, ◌+◌, ◌-◌, ◌≤◌, ◌<◌, List, [], ◌∷◌, ◌++◌, length, arith}
use Rattle.std.specs.Prelude.{Option, Some, None, Ok, min, slice_get}
use Rattle.std.proofs.lemmas.List.{length-append}
use Rattle.std.proofs.lemmas.Option.{slice_get_within}
use Rattle.std.specs.List.{FoldsTo, enumerate_from}
use Rattle.std.specs.declared.result.Result.{Result}
use Rattle.oa_cells.specs.Fills.{IsFilledBy}

pub counted_on : {X : Type 0} (from : ℕ) (xs : List X) (x : X) (i : ℕ) → from + length xs ≡ i
    → enumerate_from from (xs ++ x ∷ []) ≡ enumerate_from from xs ++ (i, x) ∷ []
counted_on from [] x i e = let same : from ≡ i = omega (arith, e) in ap (λ k. (k, x) ∷ []) same
counted_on from (y ∷ ys) x i e = let more : from + suc (length ys) ≡ i = e in ap (λ l. (from, y) ∷ l) (counted_on (from + 1) ys x i (omega (arith, more)))

abbrev unwrapped : {X : Type 0} → X → Option X → X
unwrapped d None = d
unwrapped d (Some x) = x

slice_get_behind : {X : Type 0} (front cells : List X) (n k : ℕ) → length front ≡ n → n ≤ k
    → slice_get (front ++ cells) k ≡ slice_get cells (k - n)
slice_get_behind [] cells n k long le = let same : k ≡ k - n = omega (arith, long) in ap (slice_get cells) same
slice_get_behind (x ∷ front) cells n zero long le = absurd (omega (arith, long, le))
slice_get_behind (x ∷ front) cells n (suc k) long le =
    let more : suc (length front) ≡ n = long in let one_less : k - (n - 1) ≡ suc k - n = omega (arith, more) in
    slice_get_behind front cells (n - 1) k (omega (arith, more)) (omega (arith, more, le)) ∙ ap (slice_get cells) one_less

module _ {S X E : Type 0} (step : S → ℕ → Result X E → S → Type 0) where
  -- Each element is the result of the call with its index.
  each_call : (first last : S) (from : ℕ) (cells : List X)
      → FoldsTo (λ f cell g. step f cell.0 (Ok cell.1) g) first (enumerate_from from cells) last
      → (k at : ℕ) → at ≡ from + k → (x : X) → slice_get cells k ≡ Some x → (p : S) × (q : S) × step p at (Ok x) q
  each_call first last from [] calls k at e x here = cc
  each_call first last from (cell ∷ cells) calls zero at e x here =
      let same : at ≡ from = omega (arith, e) in let cell_is : cell ≡ x = ap (unwrapped x) here in
      (first, calls.0, subst (λ i. step first i (Ok x) calls.0) (sym same) (subst (λ c. step first from (Ok c) calls.0) cell_is calls.1))
  each_call first last from (cell ∷ cells) calls (suc k) at e x here = each_call calls.0 last (from + 1) cells calls.2 k at (omega (arith, e)) x here

  pub each_cell : (first : S) (from : ℕ) (cells : List X) → IsFilledBy step first from cells → (k at : ℕ) → at ≡ from + k → (x : X)
      → slice_get cells k ≡ Some x → (p : S) × (q : S) × step p at (Ok x) q
  each_cell first from cells filled = each_call first filled.last from cells filled.calls

  -- The elements after others, by their index among all n: there are others up to `from`, if n is above it.
  pub each_behind : (first : S) (front cells : List X) (from n : ℕ) → length front ≡ min n from → length front + length cells ≡ n
      → IsFilledBy step first from cells
      → (k : ℕ) (x : X) → from ≤ k → slice_get (front ++ cells) k ≡ Some x → (p : S) × (q : S) × step p k (Ok x) q
  each_behind first front cells from n short all filled k x le here =
      let inside : k < length (front ++ cells) = slice_get_within (front ++ cells) k x here in
      let long : length front ≡ from = omega (arith, inside, length-append front cells, short, all, le) in
      each_cell first from cells filled (k - from) k (omega (arith, le)) x (sym (slice_get_behind front cells from k long le) ∙ here)

  pub none_called : (first : S) (from : ℕ) (cells : List X) → cells ≡ [] → IsFilledBy step first from cells
  none_called first from cells none = subst (IsFilledBy step first from) (sym none) (record { last = first; calls = refl })
