-- The turns and the exits of loops that read several values.
use Rattle.std.proofs.Common.{◌≡◌, ℕ, ◌+◌, ◌-◌, ◌<◌, ◌≤◌, true, false, ltb, leb, List, ◌∷◌, length, get_or, set, take, drop, Option, Some, Err, arith}
use Rattle.std.proofs.Common.{sym, ap, ◌∙◌}
use Rattle.std.proofs.lemmas.List.{drop_more, drop_all, take_more_set, take_all}
use Rattle.std.proofs.lemmas.Bool.{and_parts, false_from_ne_true, leb-true, ltb-true}
use Rattle.std.specs.Global.{Vec}
use Rattle.std.specs.Prelude.{All, is_some, ◌&&◌}
use Rattle.std.specs.List.{AllByRecursion, flat_map}
use Rattle.std.proofs.lemmas.List.Elements.{All-from_recursion}
use Rattle.oa_ndr.specs.promise.Reading.{Cursor, Decoder, many}
use Rattle.oa_ndr.proofs.Loop.{with_front, many_goes_on, many_ends, many_is_done}
use Rattle.oa_model.specs.promise.Limits.{max_dimensions, max_cells}
use Rattle.oa_model.specs.promise.Types.{sf_type_of}
use Rattle.oa_model.specs.declared.bound.Bound.{Bound}
use Rattle.oa_model.specs.declared.var_type.VarType.{VarType}
use Rattle.oa_array.specs.promise.Arrays.{IsArrayShape}
use Rattle.oa_array.specs.promise.Boxes.{box_size}
use Rattle.oa_variant.specs.promise.Scalars.{FitsType}
use Rattle.oa_variant.specs.declared.scalar.Scalar.{Scalar}
use Rattle.oa_formats.specs.declared.fault.ReadFault.{ReadFault}
use Rattle.oa_formats.specs.declared.fault.ReadFault.TheVariants.{Broken, Memory}
use Rattle.oa_formats.specs.Answers.{ReadsImage, ReadsImageBy}
use Rattle.oa_formats.specs.promise.Arrays.{is_shape}
use Rattle.oa_formats.specs.Windows.{Showing, added, added_added}
use Rattle.oa_formats.proofs.Adding.{added_none}
use Rattle.oa_formats.proofs.Rows.{all_and}

pub many_err : {A : Type 0} (read : Decoder A) (e : ReadFault) (front : List A) (n i : ℕ) (s t u : Cursor)
    (total : Option (List A × Cursor)) → i < n → ReadsImage {A = A} (Err e) t (read s)
    → with_front front (many read (n - i) s) ≡ total → ReadsImageBy {A = Vec A} (λ v. v.items) (Err e) u total
many_err read Broken front n i s t u total lt h so_far = many_ends read front n i s total lt h so_far
many_err read Memory front n i s t u total lt h so_far = tt

-- ---- values whose images are added one behind the other

pub images_go_on : {A : Type 0} (image : A → List ℕ) (xs : List A) (i : ℕ) (x : A) (s t total : Showing) → i < length xs → x ≡ get_or xs i x
    → t ≡ added s (image x) → added s (flat_map image (drop i xs)) ≡ total → added t (flat_map image (drop (i + 1) xs)) ≡ total
images_go_on {A} image xs i x s t total lt is more so_far =
    let next : drop i xs ≡ x ∷ drop (i + 1) xs = drop_more xs i x lt ∙ ap (λ (y : A). y ∷ drop (i + 1) xs) (sym is) in
    ap (λ (u : Showing). added u (flat_map image (drop (i + 1) xs))) more ∙ added_added s (image x) (flat_map image (drop (i + 1) xs))
    ∙ (rw next at so_far)

pub images_end : {A : Type 0} (image : A → List ℕ) (xs : List A) (i : ℕ) (s total : Showing) → length xs ≤ i
    → added s (flat_map image (drop i xs)) ≡ total → s ≡ total
images_end image xs i s total le so_far = sym (added_none s) ∙ (rw (drop_all i xs le) at so_far)

-- ---- cells that are filled one by one

pub cells_err : {A : Type 0} (read : Decoder A) (e : ReadFault) (front : List A) (n i : ℕ) (s t u : Cursor)
    (total : Option (List A × Cursor)) → i < n → ReadsImage {A = A} (Err e) t (read s)
    → with_front front (many read (n - i) s) ≡ total → ReadsImage {A = List A} (Err e) u total
cells_err read Broken front n i s t u total lt h so_far = many_ends read front n i s total lt h so_far
cells_err read Memory front n i s t u total lt h so_far = tt

pub cells_put : {A : Type 0} (read : Decoder A) (cells : List A) (n i : ℕ) (s t : Cursor) (x : A) (total : Option (List A × Cursor))
    → length cells ≡ n → i < n → read s ≡ Some (x, t)
    → with_front (take i cells) (many read (n - i) s) ≡ total
    → with_front (take (i + 1) (set cells i x)) (many read (n - (i + 1)) t) ≡ total
cells_put read cells n i s t x total len lt h so_far =
    rw (take_more_set cells i x (omega (arith, len, lt))) (many_goes_on read (take i cells) n i s t x total lt h so_far)

pub cells_full : {A : Type 0} (read : Decoder A) (cells : List A) (n i : ℕ) (s0 s : Cursor) → length cells ≡ n → n ≤ i
    → with_front (take i cells) (many read (n - i) s) ≡ many read n s0 → many read n s0 ≡ Some (cells, s)
cells_full read cells n i s0 s len le so_far =
    many_is_done read cells n i s (many read n s0) le (rw (← take_all i cells (omega (arith, len, le))) so_far)

pub all_put : {A : Type 0} (P : A → Type 0) (cells : List A) (i : ℕ) (x : A) → i < length cells → P x → AllByRecursion P (take i cells)
    → AllByRecursion P (take (i + 1) (set cells i x))
all_put P cells i x lt p all = rw (take_more_set cells i x lt) (all_and P (take i cells) x all p)

pub all_fit : (t : VarType) (cells : List Scalar) → AllByRecursion (λ s. FitsType s t) cells → All (λ s. FitsType s t) cells
all_fit t cells h = All-from_recursion (λ s. FitsType s t) cells h

shape_there : (t : VarType) (bounds : List Bound) → is_shape t bounds ≡ true → IsArrayShape t bounds
shape_there t bounds e =
    let a3 = and_parts (is_some (sf_type_of t) && ltb 0 (length bounds) && leb (length bounds) max_dimensions)
    (leb (box_size bounds) max_cells) e in
    let a2 = and_parts (is_some (sf_type_of t) && ltb 0 (length bounds)) (leb (length bounds) max_dimensions) a3.0 in
    let a1 = and_parts (is_some (sf_type_of t)) (ltb 0 (length bounds)) a2.0 in
    record { typed = a1.0; some = ltb-true _ _ a1.1; few = leb-true _ _ a2.1; small = leb-true _ _ a3.1 }

pub shape_not : (t : VarType) (bounds : List Bound) → (IsArrayShape t bounds → ⊥) → is_shape t bounds ≡ false
shape_not t bounds none = false_from_ne_true (is_shape t bounds) (λ e. none (shape_there t bounds e))
