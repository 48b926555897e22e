-- A redimensioned array is an array.
use Rattle.std.proofs.Common.{◌≡◌, ℕ, ◌<◌, ◌≤◌, List, [], ◌∷◌, length, set, All, slice_get, get_or, unwrap_or, ◌-◌, take, drop, take_all}
use Rattle.std.proofs.Common.{length-drop, MatchOption, Option, Some, None, refl, sym, ap, subst, ◌∙◌, arith}
use Rattle.std.proofs.lemmas.Option.{none-some, unwrap_or-slice_get}
use Rattle.oa_array.proofs.Counting.{same_inside}
use Rattle.std.proofs.lemmas.Bool.{cases_lt}
use Rattle.std.proofs.Common.{⊎_elim}
use Rattle.std.proofs.lemmas.List.{get_or_past}
use Rattle.std.proofs.lemmas.List.Elements.{All-from_get_or, All-get_or}
use Rattle.std.proofs.lemmas.List.FromFn.{length-map-range_with_len, get_or-map-range_with_len}
use Rattle.oa_model.specs.promise.Limits.{max_cells}
use Rattle.oa_model.specs.declared.bound.Bound.{Bound}
use Rattle.oa_model.specs.declared.var_type.VarType.{VarType}
use Rattle.oa_array.specs.promise.Boxes.{box_size}
use Rattle.oa_array.specs.promise.Arrays.{IsArray, with_first, kept_by_position, redimensioned}

pub length-kept : {X : Type 0} (blank : X) (n : ℕ) (cells : List X) → length (kept_by_position blank n cells) ≡ n
unfolding kept_by_position
length-kept blank n cells = length-map-range_with_len (λ p. unwrap_or (slice_get cells p) blank) 0 n

pub get-kept : {X : Type 0} (blank : X) (n : ℕ) (cells : List X) (k : ℕ) → k < n
    → get_or (kept_by_position blank n cells) k blank ≡ unwrap_or (slice_get cells k) blank
unfolding kept_by_position
get-kept blank n cells k h = get_or-map-range_with_len (λ p. unwrap_or (slice_get cells p) blank) 0 n k k blank h (omega arith)

All-kept : {X : Type 0} (P : X → Type 0) (blank : X) (n : ℕ) (cells : List X) → P blank → All P cells
    → All P (kept_by_position blank n cells)
All-kept P blank n cells here all =
    All-from_get_or P (kept_by_position blank n cells) blank (λ k h.
    let inside : k < n = omega (arith, h, length-kept blank n cells) in
    let was = get-kept blank n cells k inside ∙ unwrap_or-slice_get cells k blank in
    subst P (sym was) (⊎_elim (λ i. All-get_or P cells k blank i all) (λ i. subst P (sym (get_or_past cells k blank i)) here) (cases_lt k (length cells))))

first_set : (bounds : List Bound) (bound : Bound) → 0 < length bounds → set bounds 0 bound ≡ with_first bound bounds
first_set [] bound h = absurd (omega (arith, h))
first_set (b ∷ bounds) bound h = refl

length-with_first : (bounds : List Bound) (bound : Bound) → 0 < length bounds → length (with_first bound bounds) ≡ length bounds
length-with_first [] bound h = absurd (omega (arith, h))
length-with_first (b ∷ bounds) bound h = refl

module _ {X : Type 0} where
  pub redimensioned_is : (elem : VarType) (bounds : List Bound) (cells new : List X) (locks : ℕ) (blank : X) (bound : Bound) (n : ℕ)
      → 0 < length bounds → n ≡ box_size (with_first bound bounds) → new ≡ kept_by_position blank n cells
      → record {
        elem = elem;
        bounds = set bounds 0 bound;
        cells = new;
        locks =
            locks;
      } ≡ redimensioned blank bound (record { elem = elem; bounds = bounds; cells = cells; locks = locks })
  redimensioned_is elem bounds cells new locks blank bound n some size is =
      let at = is ∙ ap (λ k. kept_by_position blank k cells) size in
      let first = first_set bounds bound some in
      cc

  pub redimensioned_array : (fits : X → VarType → Type 0) (elem : VarType) (bounds : List Bound) (cells new : List X) (locks : ℕ)
      (blank : X) (bound : Bound) (n : ℕ) → IsArray fits (record { elem = elem; bounds = bounds; cells = cells; locks = locks })
      → fits blank elem → n ≡ box_size (with_first bound bounds) → n ≤ max_cells → new ≡ kept_by_position blank n cells
      → IsArray fits (record { elem = elem; bounds = set bounds 0 bound; cells = new; locks = locks })
  redimensioned_array fits elem bounds cells new locks blank bound n array here size few is =
      let first = first_set bounds bound array.shape.some in
      let long = ap length first ∙ length-with_first bounds bound array.shape.some in
      let size_set = ap box_size first in
      record {
        shape = record {
          typed = array.shape.typed;
          some = omega (arith, long, array.shape.some);
          few = omega (arith, long, array.shape.few);
          small = omega (arith, size_set, size, few);
        };
        whole = ap length is ∙ length-kept blank n cells ∙ size ∙ sym size_set;
        typed = subst (All (λ cell. fits cell elem)) (sym is) (All-kept (λ cell. fits cell elem) blank n cells here array.typed);
      }

rest_of : (s bounds : List Bound) → s ≡ bounds → take (length s - 1) (drop 1 s) ≡ drop 1 bounds
rest_of s bounds e = take_all (length s - 1) (drop 1 s) (omega (arith, length-drop 1 s)) ∙ ap (drop 1) e

-- The result of `size` for the new bounds.
pub size_behind : (r : Option ℕ) (bound : Bound) (s bounds : List Bound) → s ≡ bounds
    → MatchOption r (max_cells < box_size (bound ∷ take (length s - 1) (drop 1 s)))
    (λ n. (n ≡ box_size (bound ∷ take (length s - 1) (drop 1 s))) × (n ≤ max_cells))
    → MatchOption r (max_cells < box_size (with_first bound bounds)) (λ n. (n ≡ box_size (with_first bound bounds)) × (n ≤ max_cells))
size_behind None bound s bounds e h = omega (arith, h, ap (λ l. box_size (bound ∷ l)) (rest_of s bounds e))
size_behind (Some n) bound s bounds e h = (h.0 ∙ ap (λ l. box_size (bound ∷ l)) (rest_of s bounds e), h.1)

pub count_found : (r : Option ℕ) (size n : ℕ) → r ≡ Some n → MatchOption r (max_cells < size) (λ m. (m ≡ size) × (m ≤ max_cells))
    → (n ≡ size) × (n ≤ max_cells)
count_found None size n e h = absurd (none-some n e)
count_found (Some m) size n e h = let same = same_inside m n e in (omega (arith, h.0, same), omega (arith, h.1, same))
