-- Reading an array reads its form.
use Rattle.std.proofs.Common.{◌≡◌, ℕ, ◌+◌, inl, inr, Bool, true, false, eqb, leb, ltb, ◌&&◌, List, [], ◌∷◌, ◌++◌, length, Option, Some}
use Rattle.std.proofs.Common.{None, All, is_some, refl, sym, ap, subst, ◌∙◌, arith, ℤ}
use Rattle.std.specs.Int.{w32}
use Rattle.std.specs.List.{AllByRecursion}
use Rattle.std.proofs.lemmas.Bool.{eqb-true, eq-eqb, leb-true, le-leb, ltb-true, lt-ltb, and_parts, and_from, true≢false}
use Rattle.std.proofs.lemmas.Bool.{false_from_ne_true}
use Rattle.std.proofs.lemmas.List.Elements.{All-from_recursion, All-head, All-tail}
use Rattle.oa_model.specs.promise.Limits.{max_dimensions, max_cells}
use Rattle.oa_ndr.specs.promise.Forms.{◌▸◌, unit, referent, each, given, made}
use Rattle.oa_ndr.specs.promise.Reading.{Cursor, Decoder, many}
use Rattle.oa_ndr.proofs.Laws.{Reads, Always, all_always, give_reads, fail_reads, choose_reads, unit_reads, referent_reads, bind_reads}
use Rattle.oa_ndr.proofs.Laws.{with_reads, ignored_then, same_values, made_reads, made_from, many_reads, pairwise_reads, pairwise_length}
use Rattle.oa_model.specs.declared.bound.Bound.{Bound}
use Rattle.oa_model.specs.declared.var_type.VarType.{VarType}
use Rattle.oa_model.specs.declared.var_type.VarType.TheVariants as types
use Rattle.oa_model.specs.promise.Types.{sf_type_of}
use Rattle.oa_array.specs.promise.Arrays.{ArrayValue, IsArrayShape}
use Rattle.oa_array.specs.promise.Boxes.{box_size}
use Rattle.oa_variant.specs.promise.Scalars.{type_of, FitsType}
use Rattle.oa_variant.specs.declared.scalar.Scalar.{Scalar}
use Rattle.oa_variant.specs.declared.scalar.Scalar.TheVariants as scalars
use Rattle.oa_wire_text.specs.promise.Texts.{pointee}
use Rattle.oa_wire_array.specs.promise.Scalars.{arm}
use Rattle.oa_wire_array.specs.Reading.{arm_at}
use Rattle.oa_wire_array.specs.promise.Arrays.{bound, cell_pointee, pointed, elements, IsUnlockedArray, dimensions}
use Rattle.oa_wire_array.specs.promise.Arrays.{header, array}
use Rattle.oa_wire_array.specs.ArrayReading.{bound_at, text_cell_at, variant_cell_at, pointee_at, pointed_at, elements_at, is_number}
use Rattle.oa_wire_array.specs.ArrayReading.{has_sf_type, is_count, array_with, cells_at, data_at, header_at, array_at}
use Rattle.oa_wire_text.proofs.TextLaws.{pointee_reads}
use Rattle.oa_wire_array.proofs.ScalarLaws.{signed_reads, arm_reads, scalar_reads}

abbrev bound_of : ℕ → ℤ → Bound
bound_of count lower = record { count = count; lower = lower }

bound_is : (b : Bound) (count : ℕ) → b.count ≡ count → bound_of count b.lower ≡ b
bound_is b count e = rw (← e) refl

bound_reads : Reads Always bound bound_at
unfolding bound_at
bound_reads = bind_reads (unit 4) (λ (b : Bound). b.count) (unit_reads 4) (λ _ _. tt) (λ count _.
    made_reads (bound_of count) (signed_reads 4 w32) (λ lower _. (tt, refl)) (λ b p text h form. (b.lower, tt, bound_is b count h.1)))

-- a fact of the value that the bytes before it say, and which the reading of the rest needs
pub given_part : {C : Type 0} {P : C → Type 0} (Q : C → Type 0) {F : C → ℕ → List ℕ → Type 0} {read : Decoder C} → Reads (λ c. P c × Q c) F read
    → Reads P (λ c. given (Q c) ▸ F c) read
given_part {C} {P} Q {F} {read} r = record {
  takes = λ p bytes c t e.
      let one = r.takes p bytes c t e in (
        one.0.0,
        record {
          text = one.1.text;
          parts = one.1.parts;
          place = one.1.place;
          form = record {
            front = [];
            back = one.1.text;
            parts = refl;
            first = record { fact = one.0.1; none = refl };
            second = subst
                (λ (q : ℕ). F c q one.1.text) (omega arith) one.1.form;
          };
        },
      );
  again = λ p text rest c h form.
      let same : text ≡ form.back = form.parts ∙ ap (λ (y : List ℕ). y ++ form.back) form.first.none in
      let place : p + length form.front ≡ p = omega (arith, ap length form.first.none) in
      r.again p text rest c (h, form.first.fact) (subst (λ (q : ℕ). F c q text) place (subst (F c (p + length form.front)) (sym same) form.second));
}

-- ---- cells

abbrev pub Fits : VarType → Scalar → Type 0
Fits t v = FitsType v t

-- Facts about the values that the form implies.
known : {C : Type 0} {P : C → Type 0} {F : C → ℕ → List ℕ → Type 0} {read : Decoder C} → Reads Always F read
    → ((c : C) (p : ℕ) (text : List ℕ) → F c p text → P c) → Reads P F read
known r says = record {
  takes = λ p bytes c t e. let one = (r.takes p bytes c t e).1 in (says c p one.text one.form, one);
  again = λ p text rest c h form. r.again p text rest c tt form;
}

text_fits : (is_set : Bool) (v : Scalar) (p : ℕ) (text : List ℕ) → made scalars.Bstr (pointee is_set) v p text → Fits types.Bstr v
text_fits is_set v p text form = inr (ap type_of (sym form.is))

pointee_cell_reads : (t : VarType) (is_set : Bool) → Reads (Fits t) (cell_pointee t is_set) (pointee_at t is_set)
unfolding pointee_at text_cell_at variant_cell_at
pointee_cell_reads types.Bstr is_set = known (made_from scalars.Bstr (pointee_reads is_set) (λ t. tt)) (text_fits is_set)
pointee_cell_reads types.Variant true = known (choose_reads true (λ _. scalar_reads) (λ e. absurd cc)) (λ v p text form. inl refl)
pointee_cell_reads types.Variant false = known (choose_reads false (λ e. absurd cc) (λ _. give_reads scalars.Empty tt refl (λ v _ e. e)))
    (λ v p text form. inl refl)
pointee_cell_reads t is_set = fail_reads (λ v p text h form. form.fact)

-- A number of elements, each of the type.
abbrev pub AreCells : VarType → ℕ → List Scalar → Type 0
AreCells t n cells = (length cells ≡ n) × AllByRecursion (Fits t) cells

pointed_reads : (t : VarType) (n : ℕ) → Reads (AreCells t n) (pointed t) (pointed_at t n)
unfolding pointed_at
pointed_reads t n =
    with_reads (many_reads referent_reads n)
    (λ cells flags p text h form. (pairwise_length (cell_pointee t) flags cells p text form ∙ h.0, all_always flags))
    (λ flags h. same_values (pairwise_reads (pointee_cell_reads t) flags) (λ cells q. (q.0 ∙ h.0, q.1)) (λ cells q. (q.0 ∙ sym h.0, q.1)))

all_as : {P Q : Scalar → Type 0} → ((v : Scalar) → P v → Q v) → (cells : List Scalar) → AllByRecursion P cells → AllByRecursion Q cells
all_as to [] h = tt
all_as to (v ∷ cells) h = (to v h.0, all_as to cells h.1)

plain_reads : (t : VarType) → (t ≡ types.Variant → ⊥) → (n : ℕ) → Reads (AreCells t n) (each arm) (many (arm_at t) n)
plain_reads t other n = same_values (many_reads (arm_reads t) n)
    (λ cells h. (h.0, all_as (λ v e. inr e) cells h.1))
    (λ cells h. (h.0, all_as its_type cells h.1))
  where
    its_type : (v : Scalar) → Fits t v → type_of v ≡ t
    its_type v (inl e) = absurd (other e)
    its_type v (inr e) = e

elements_reads : (t : VarType) (n : ℕ) → Reads (AreCells t n) (elements t) (elements_at t n)
unfolding elements_at
elements_reads types.Bstr n = pointed_reads types.Bstr n
elements_reads types.Variant n = pointed_reads types.Variant n
elements_reads t n = plain_reads t (λ e. absurd cc) n

-- ---- the number of cells

pub counted : (t : VarType) (bounds : List Bound) (n : ℕ) → is_count t bounds n ≡ true → IsArrayShape t bounds × (box_size bounds ≡ n)
unfolding is_count
counted t bounds n e =
    let a4 = and_parts (is_some (sf_type_of t) && ltb 0 (length bounds) && leb (length bounds) max_dimensions && leb (box_size bounds) max_cells)
    (eqb (box_size bounds) n) e in
    let a3 = and_parts (is_some (sf_type_of t) && ltb 0 (length bounds) && leb (length bounds) max_dimensions) (leb (box_size bounds) max_cells) a4.0 in
    let a2 = and_parts (is_some (sf_type_of t) && ltb 0 (length bounds)) (leb (length bounds) max_dimensions) a3.0 in
    let a1 = and_parts (is_some (sf_type_of t)) (ltb 0 (length bounds)) a2.0 in
    (record { typed = a1.0; some = ltb-true _ _ a1.1; few = leb-true _ _ a2.1; small = leb-true _ _ a3.1 }, eqb-true _ _ a4.1)

pub counts : (t : VarType) (bounds : List Bound) (n : ℕ) → IsArrayShape t bounds → is_count t bounds n ≡ eqb (box_size bounds) n
unfolding is_count
counts t bounds n shape =
    rw (shape.typed, lt-ltb _ _ shape.some, le-leb _ _ shape.few, le-leb _ _ shape.small) refl

-- ---- the array

pub by_recursion : (P : Scalar → Type 0) (cells : List Scalar) → All P cells → AllByRecursion P cells
by_recursion P [] h = tt
by_recursion P (v ∷ cells) h = (All-head P v cells h, by_recursion P cells (All-tail P v cells h))

-- cells that were read make an array
pub is_array : (t : VarType) (bounds : List Bound) (cells : List Scalar) (n : ℕ) → is_count t bounds n ≡ true → AreCells t n cells
    → IsUnlockedArray (array_with t bounds cells)
is_array t bounds cells n e are =
    let c = counted t bounds n e in
    (record { shape = c.0; whole = are.0 ∙ sym c.1; typed = All-from_recursion (Fits t) cells are.1 }, refl)

-- The facts about an array that are known before its data are read.
abbrev IsSized : VarType → ℕ → ℕ → ArrayValue Scalar → Type 0
IsSized t dims size a = ((IsUnlockedArray a × (a.elem ≡ t)) × (length a.bounds ≡ dims)) × (length a.cells ≡ size)

array_is : (a : ArrayValue Scalar) (t : VarType) (bounds : List Bound) → a.elem ≡ t → a.bounds ≡ bounds → a.locks ≡ 0 → array_with t bounds a.cells ≡ a
array_is a t bounds e f h = rw (← e, ← f, ← h) refl

-- the cells of an array are of its type
are_cells : (a : ArrayValue Scalar) (t : VarType) (n : ℕ) → a.elem ≡ t → length a.cells ≡ n → IsUnlockedArray a → AreCells t n a.cells
are_cells a t n e len plain = (len, subst (λ (j : VarType). AllByRecursion (Fits j) a.cells) e (by_recursion (Fits a.elem) a.cells plain.0.typed))

-- the test that an array passes
is_counted : (a : ArrayValue Scalar) (t : VarType) (bounds : List Bound) (n : ℕ) → a.elem ≡ t → a.bounds ≡ bounds → length a.cells ≡ n → IsUnlockedArray a
    → is_count t bounds n ≡ true
is_counted a t bounds n e f g plain =
    let here : is_count a.elem a.bounds (length a.cells) ≡ true = counts a.elem a.bounds (length a.cells) plain.0.shape ∙ eq-eqb _ _ (sym plain.0.whole) in
    rw (← e, ← f, ← g) here

cells_reads : (t : VarType) (bounds : List Bound) (dims size maximum : ℕ) → length bounds ≡ dims → maximum ≡ size → is_count t bounds size ≡ true
    → Reads (λ (a : ArrayValue Scalar). (IsSized t dims size a × (a.bounds ≡ bounds)) × (length a.cells ≡ maximum)) (λ a. elements a.elem a.cells)
    (cells_at t bounds size)
unfolding cells_at
cells_reads t bounds dims size maximum is_dims whole_size counted =
    made_reads (array_with t bounds) (elements_reads t size)
    (λ cells are. (((((is_array t bounds cells size counted are, refl), is_dims), are.0), refl), are.0 ∙ sym whole_size))
    (λ a p text h form. (a.cells, are_cells a t size h.0.0.0.0.1 h.0.0.1 h.0.0.0.0.0, array_is a t bounds h.0.0.0.0.1 h.0.1 h.0.0.0.0.0.1))

data_reads : (t : VarType) (dims size : ℕ) → Reads (IsSized t dims size) dimensions (data_at t dims size)
unfolding data_at
data_reads t dims size =
    bind_reads (each bound) (λ (a : ArrayValue Scalar). a.bounds) (many_reads bound_reads dims) (λ a h. (h.0.1, all_always a.bounds)) (λ bounds is_dims.
    bind_reads (unit 4) (λ (a : ArrayValue Scalar). length a.cells) (unit_reads 4) (λ _ _. tt) (λ maximum _.
    choose_reads (eqb maximum size && is_count t bounds size)
    (λ same.
    let s = and_parts (eqb maximum size) (is_count t bounds size) same in
    cells_reads t bounds dims size maximum is_dims.0 (eqb-true _ _ s.0) s.1)
    (λ other. fail_reads (λ a p text h form.
    let whole_size : eqb maximum size ≡ true = eq-eqb _ _ (sym h.1 ∙ h.0.0.1) in
    let both = and_from (eqb maximum size) (is_count t bounds size) whole_size (is_counted a t bounds size h.0.0.0.0.1 h.0.1 h.0.0.1 h.0.0.0.0.0) in
    absurd cc))))

some_number : (o : Option ℕ) (n : ℕ) → is_number o n ≡ true → o ≡ Some n
some_number None n e = absurd cc
some_number (Some m) n e = ap Some (eqb-true m n e)

is_that_number : (o : Option ℕ) (n : ℕ) → o ≡ Some n → is_number o n ≡ true
is_that_number o n e = ap (λ (x : Option ℕ). is_number x n) e ∙ eq-eqb n n refl

header_reads : (t : VarType) → Reads (λ a. IsUnlockedArray a × (a.elem ≡ t)) header (header_at t)
unfolding header_at
header_reads t =
    bind_reads (unit 4) (λ (a : ArrayValue Scalar). length a.bounds) (unit_reads 4) (λ _ _. tt) (λ maximum _.
    bind_reads (unit 2) (λ (a : ArrayValue Scalar). length a.bounds) (unit_reads 2) (λ _ _. tt) (λ dims _.
    ignored_then 2 (ignored_then 4 (ignored_then 4 (with_reads (unit_reads 4) (λ _ _ _ _ _ _. tt) (λ sf _.
    given_part (λ (a : ArrayValue Scalar). sf_type_of a.elem ≡ Some sf)
    (bind_reads (unit 4) (λ (a : ArrayValue Scalar). length a.cells) (unit_reads 4) (λ _ _. tt) (λ size _.
    ignored_then 4 (choose_reads (eqb maximum dims && leb dims max_dimensions && has_sf_type t sf)
    (λ ok.
    let a2 = and_parts (eqb maximum dims && leb dims max_dimensions) (has_sf_type t sf) ok in
    let a1 = and_parts (eqb maximum dims) (leb dims max_dimensions) a2.0 in
    same_values (data_reads t dims size)
    (λ a h. ((((h.0.0, h.0.1 ∙ sym (eqb-true _ _ a1.0)), h.0.1), ap sf_type_of h.0.0.1 ∙ some_number (sf_type_of t) sf a2.1), h.1))
    (λ a h. ((h.0.0.0.0, h.0.0.1), h.1)))
    (λ no. fail_reads (λ a p text h form.
    let same : eqb maximum dims ≡ true = eq-eqb _ _ (sym h.0.0.0.1 ∙ h.0.0.1) in
    let few : leb dims max_dimensions ≡ true = le-leb _ _ (omega (arith, h.0.0.0.0.0.0.shape.few, h.0.0.1)) in
    let own : has_sf_type t sf ≡ true = is_that_number (sf_type_of t) sf (ap sf_type_of (sym h.0.0.0.0.1) ∙ h.0.1) in
    let all : (eqb maximum dims && leb dims max_dimensions && has_sf_type t sf) ≡ true = rw (same, few, own) refl in
    absurd cc)))))))))))

pub array_reads : (t : VarType) → Reads (λ a. a.elem ≡ t) array (array_at t)
unfolding array_at
array_reads t =
    given_part IsUnlockedArray
    (same_values (bind_reads referent (λ _. true) referent_reads (λ _ _. tt) (λ is_set _.
    choose_reads is_set
    (λ set. same_values (header_reads t) (λ a h. (h, sym set)) (λ a h. h.0))
    (λ null. fail_reads (λ a p text h _. absurd (true≢false (h.1 ∙ null))))))
    (λ a h. (h.1, h.0)) (λ a h. (h.1, h.0)))

-- If there is no array, the test of the count fails.
pub not_counted : (t : VarType) (bounds : List Bound) (n : ℕ) → (IsArrayShape t bounds → ⊥) → false ≡ is_count t bounds n
not_counted t bounds n never = sym (false_from_ne_true (is_count t bounds n) (λ e. never (counted t bounds n e).0))

-- cells that were read are as many as were asked for, and of the type
pub read_cells : (t : VarType) (n : ℕ) (old new : Cursor) (cells : List Scalar) → elements_at t n old ≡ Some (cells, new) → AreCells t n cells
read_cells t n old new cells e = ((elements_reads t n).takes old.position old.rest cells new e).0
