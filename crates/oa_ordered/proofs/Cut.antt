-- Rows that are cut from the end of a list.
use Rattle.std.proofs.Common.{◌≡◌, ◌∙◌, ◌<◌, ℕ, List, [], ◌∷◌, ◌++◌, length, take, drop, sym, ap}
use Rattle.std.specs.Prelude.{reverse}
use Rattle.std.proofs.lemmas.List.{append_assoc, reverse-append, take-append-drop}
use Rattle.oa_ordered.specs.Rows.{AreFilled, concat_rows}

module _ {K X : Type 0} where
  turned : (rows : List (List (K × X))) (row : List (K × X)) → reverse (rows ++ row ∷ []) ≡ row ∷ reverse rows
  turned rows row = reverse-append rows (row ∷ [])

  -- what is left, and behind it the rows that were cut, the last one first
  pub cut : (rows : List (List (K × X))) (left kept row all : List (K × X)) (at : ℕ) → kept ≡ take at left → row ≡ drop at left
      → left ++ concat_rows (reverse rows) ≡ all → kept ++ concat_rows (reverse (rows ++ row ∷ [])) ≡ all
  cut rows left kept row all at is cuts so_far =
      rw (turned rows row, is, cuts) (sym (append_assoc (take at left) (drop at left) (concat_rows (reverse rows)))
      ∙ (ap (λ es. es ++ concat_rows (reverse rows)) (take-append-drop at left) ∙ so_far))

  pub cut_filled : (rows : List (List (K × X))) (row : List (K × X)) → 0 < length row → AreFilled (reverse rows) → AreFilled (reverse (rows ++ row ∷ []))
  cut_filled rows row some filled = rw (turned rows row) (some, filled)
