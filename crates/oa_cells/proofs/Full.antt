-- A row each of whose places holds a value.
use Rattle.std.proofs.Common.{◌≡◌, refl, sym, ap, ◌∙◌, ℕ, zero, suc, ◌<◌, List, [], ◌∷◌, length, arith}
use Rattle.std.specs.Prelude.{map, take, get_or, slice_get, slice_set, Option, Some, None}
use Rattle.std.proofs.lemmas.List.{length-map, take_all}
use Rattle.oa_cells.specs.Windows.{values}

module _ {X : Type 0} where
  pub values_of_full : (xs : List X) → values (map Some xs) ≡ xs
  values_of_full [] = refl
  values_of_full (x ∷ xs) = ap (λ l. x ∷ l) (values_of_full xs)

  pub is_full : (row : List (Option X)) (xs : List X) → row ≡ map Some xs
      → (values row ≡ xs) × (row ≡ map Some (values row)) × (length row ≡ length xs)
  is_full row xs e = let read = ap values e ∙ values_of_full xs in (read, e ∙ ap (map Some) (sym read), ap length e ∙ length-map xs Some)

  -- the slice of a whole row
  pub all_read : (row : List (Option X)) (len : ℕ) (xs : List X) → len ≡ length row → take len row ≡ map Some xs → xs ≡ values row
  all_read row len xs long e = sym (values_of_full xs) ∙ ap values (sym e ∙ take_all len row (omega (arith, long)))

  pub got : (xs : List X) (i : ℕ) → get_or (map Some xs) i None ≡ slice_get xs i
  got [] i = refl
  got (x ∷ xs) zero = refl
  got (x ∷ xs) (suc i) = got xs i

  pub within : (xs : List X) (i : ℕ) → i < length xs → (x : X) × (slice_get xs i ≡ Some x)
  within [] i h = absurd (omega (arith, h))
  within (x ∷ xs) zero h = (x, refl)
  within (x ∷ xs) (suc i) h = within xs i (omega (arith, h))

  pub replaced : (xs : List X) (i : ℕ) (x : X) → slice_set (slice_set (map Some xs) i None) i (Some x) ≡ map Some (slice_set xs i x)
  replaced [] i x = refl
  replaced (y ∷ xs) zero x = refl
  replaced (y ∷ xs) (suc i) x = ap (λ l. Some y ∷ l) (replaced xs i x)
