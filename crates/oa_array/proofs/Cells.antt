-- The effect of a put and of a redimension on the map from index lists to elements.
use Rattle.std.proofs.Common.{◌≡◌, ℕ, ◌<◌, ◌≤◌, ℤ, List, length, slice_get, set, length-set, unwrap_or, Some, sym, ap, ◌∙◌, arith}
use Rattle.std.proofs.lemmas.Option.{slice_get-get_or, slice_get_past, unwrap_or-slice_get}
use Rattle.std.proofs.Common.{get_or-set_same, get_or-set_other}
use Rattle.oa_model.specs.declared.bound.Bound.{Bound}
use Rattle.oa_array.specs.Boxes.{InBounds}
use Rattle.oa_array.specs.promise.Boxes.{box_size, position_of}
use Rattle.oa_array.specs.promise.Arrays.{ArrayValue, array_element, with_cell, with_first, kept_by_position}
use Rattle.oa_array.specs.promise.Arrays.{redimensioned}
use Rattle.oa_array.proofs.Places.{position-below, same_list}
use Rattle.oa_array.proofs.Redim.{length-kept, get-kept}

module _ {X : Type 0} where
  set_here : (cells : List X) (i : ℕ) (cell : X) → i < length cells → slice_get (set cells i cell) i ≡ Some cell
  set_here cells i cell h =
      slice_get-get_or (set cells i cell) i cell (omega (arith, length-set {A = X} cells i cell, h)) ∙ ap Some (rw get_or-set_same)

  set_there : (cells : List X) (i j : ℕ) (cell : X) → (j ≡ i → ⊥) → j < length cells → slice_get (set cells i cell) j ≡ slice_get cells j
  set_there cells i j cell ne h =
      slice_get-get_or (set cells i cell) j cell (omega (arith, length-set {A = X} cells i cell, h)) ∙ ap Some (rw get_or-set_other)
      ∙ sym (slice_get-get_or cells j cell h)

  pub put_one : (a : ArrayValue X) (index other : List ℤ) (cell : X) → length a.cells ≡ box_size a.bounds → InBounds a.bounds index
      → InBounds a.bounds other → (array_element (with_cell a index cell) index ≡ Some cell)
      × ((other ≡ index → ⊥) → array_element (with_cell a index cell) other ≡ array_element a other)
  put_one a index other cell whole here there =
      let i = position-below a.bounds index here in
      let j = position-below a.bounds other there in (
        set_here a.cells (position_of a.bounds index) cell (omega (arith, whole, i)),
        λ ne. set_there a.cells (position_of a.bounds index) (position_of a.bounds other) cell (λ e. ne (same_list a.bounds other index there here e))
            (omega (arith, whole, j)),
      )

  kept_get : (zero : X) (n : ℕ) (cells : List X) (k : ℕ) → k < n
      → slice_get (kept_by_position zero n cells) k ≡ Some (unwrap_or (slice_get cells k) zero)
  kept_get nil n cells k h =
      slice_get-get_or (kept_by_position nil n cells) k nil (omega (arith, length-kept nil n cells, h)) ∙ ap Some (get-kept nil n cells k h)

  pub redim_kept : (a : ArrayValue X) (blank : X) (bound : Bound) (index old : List ℤ) → length a.cells ≡ box_size a.bounds
      → InBounds (with_first bound a.bounds) index → InBounds a.bounds old
      → position_of (with_first bound a.bounds) index ≡ position_of a.bounds old
      → array_element (redimensioned blank bound a) index ≡ array_element a old
  redim_kept a blank bound index old whole here there e =
      let new = with_first bound a.bounds in
      let i = position-below new index here in
      let j = position-below a.bounds old there in
      let at = slice_get-get_or a.cells (position_of a.bounds old) blank (omega (arith, whole, j)) in
      kept_get blank (box_size new) a.cells (position_of new index) i ∙ ap (λ k. Some (unwrap_or (slice_get a.cells k) blank)) e
      ∙ ap Some (unwrap_or-slice_get a.cells (position_of a.bounds old) blank) ∙ sym at

  pub redim_fresh : (a : ArrayValue X) (blank : X) (bound : Bound) (index : List ℤ) → length a.cells ≡ box_size a.bounds
      → InBounds (with_first bound a.bounds) index → box_size a.bounds ≤ position_of (with_first bound a.bounds) index
      → array_element (redimensioned blank bound a) index ≡ Some blank
  redim_fresh a blank bound index whole here past =
      let new = with_first bound a.bounds in
      kept_get blank (box_size new) a.cells (position_of new index) (position-below new index here)
      ∙ ap (λ o. Some (unwrap_or o blank)) (slice_get_past a.cells (position_of new index) (omega (arith, whole, past)))
