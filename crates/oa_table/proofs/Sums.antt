-- Sizes of wholes after changes of parts.
use Rattle.std.proofs.Common.{◌≡◌, ℕ, zero, suc, ◌+◌, ◌-◌, ◌*◌, ◌<◌, ◌≤◌, eqb, leb, ltb, ℤ, Bool, true, false, cond, List, [], ◌∷◌, ◌++◌}
use Rattle.std.proofs.Common.{length, take, drop, take_all, length-drop, replicate, slice_get, Option, Some, None, Result, Ok, Err, refl}
use Rattle.std.proofs.Common.{sym, ◌∙◌, subst, arith}
use Rattle.std.specs.List.{sum_by}
use Rattle.std.specs.List.Sorted.{IsStrictlySortedBy}
use Rattle.std.specs.Map.{keys_of, lookup, set_value}
use Rattle.std.specs.BTreeMap.{insert_entry, is_at}
use Rattle.std.specs.Option.{option_map, unwrap_or}
use Rattle.std.specs.Ordering.{nat_cmp}
use Rattle.std.proofs.lemmas.Cmp.{nat_cmp_total}
use Rattle.std.proofs.lemmas.List.{length-append, length-replicate, length-take, drop_all}
use Rattle.std.proofs.lemmas.List.Folds.{sum_by-replicate}
use Rattle.std.proofs.lemmas.List.Sums.{sum_by-append, sum_by-set, sum_by-take-drop}
use Rattle.std.proofs.lemmas.Map.Entries.{sum_by-insert_entry, sum_by-remove_entry, sum_by-set_value}
use Rattle.std.proofs.lemmas.Option.{get_or_from_slice_get, slice_get_within}
use Rattle.oa_model.specs.declared.bound.Bound.{Bound}
use Rattle.oa_array.specs.promise.Arrays.{ArrayValue, array_element, kept_by_position, redimensioned, with_cell}
use Rattle.oa_array.specs.promise.Arrays.{with_first, with_locks}
use Rattle.oa_array.specs.promise.Boxes.{box_size, position_of}
use Rattle.oa_array.specs.Boxes.{InBounds}
use Rattle.oa_array.specs.promise.Within.{in_bounds}
use Rattle.oa_array.proofs.Decided.{in_bounds_tells}
use Rattle.oa_array.proofs.Fills.{kept_is}
use Rattle.oa_model.specs.promise.Limits.{greatest_object_number, max_cell_locks, max_cells}
use Rattle.std.proofs.lemmas.Bool.{eq-eqb, false_from_ne_true, le-leb, le-ltb}
use Rattle.oa_model.specs.declared.var_type.VarType.{VarType}
use Rattle.oa_formats.specs.promise.Lengths.{element_size, value_size}
use Rattle.oa_variant.specs.promise.Scalars.{fits_type, zero_of}
use Rattle.oa_variant.specs.declared.scalar.Scalar.{Scalar}
use Rattle.oa_variant.specs.declared.variant.Variant.{Variant}
use Rattle.oa_variant.specs.declared.variant.Variant.TheVariants.{One, Array as AnArray}
use Rattle.oa_array.specs.declared.fault.ArrayFault.TheVariants as arrays
use Rattle.oa_table.specs.declared.fault.TableFault.{TableFault}
use Rattle.oa_table.specs.declared.fault.TableFault.TheVariants.{Array}
use Rattle.oa_table.specs.declared.name.CellName.{CellName}
use Rattle.oa_table.specs.promise.Elements.{with_element_put, locked_value, locks_of, redimensioned_value}
use Rattle.oa_table.specs.promise.Elements.{released_value}
use Rattle.oa_table.specs.Elements.{replaced_value}
use Rattle.oa_table.specs.declared.event.Event.TheVariants.{Create, Release}
use Rattle.oa_table.specs.promise.Events.{applied, on_object, released_if_live, with_object}
use Rattle.oa_table.specs.Locks.{locked_in, locks_at}
use Rattle.oa_table.specs.promise.Locks.{with_lock, without_lock}
use Rattle.oa_table.specs.promise.Objects.{locks_of_cell, with_change, with_put, with_value}
use Rattle.oa_table.specs.Outcomes.{CountsLocks}
use Rattle.oa_table.specs.promise.Outcomes.{mapped}
use Rattle.oa_table.specs.promise.Places.{PlaceValue, place_cmp}
use Rattle.oa_table.specs.Places.{places_total}
use Rattle.oa_table.specs.Sizes.{HasKeptSize, largest_image, size_due, size_in}
use Rattle.oa_table.specs.promise.Sizes.{cell_size, object_size, place_size, table_size}
use Rattle.oa_table.specs.promise.Tables.{ObjectValue, TableValue, cell_at, object_at}
use Rattle.oa_table.proofs.Entries.{put_new, put_there, put_within, set_weight}

-- ---- arrays

-- another element
pub element_sum : (a : ArrayValue Scalar) (index : List ℤ) (old new : Scalar) → array_element a index ≡ Some old
    → value_size (AnArray (with_cell a index new)) + element_size a.elem old ≡ value_size (AnArray a) + element_size a.elem new
unfolding value_size
element_sum a index old new there =
    let at = position_of a.bounds index in
    let is = get_or_from_slice_get a.cells at old new there in
    let sum = sum_by-set (element_size a.elem) a.cells at new new (slice_get_within a.cells at old there) in
    omega (arith, rw is at sum)

all_blank : {X : Type 0} (m : ℕ) (blank : X) (k : ℕ) (x : X) → slice_get (replicate m blank) k ≡ Some x → x ≡ blank
all_blank zero blank k x e = absurd cc
all_blank (suc m) blank zero x e = cc
all_blank (suc m) blank (suc k) x e = all_blank m blank k x e

-- the elements that stay, and blanks
kept_sum : {X : Type 0} (f : X → ℕ) (blank : X) (n : ℕ) (cells : List X)
    → sum_by f (kept_by_position blank n cells) + sum_by f (drop n cells) ≡ sum_by f cells + (n - length cells) * f blank
kept_sum {X} f blank n cells =
    let m = n - length cells in
    let long : length (take n cells ++ replicate m blank) ≡ n =
    omega (arith, length-append (take n cells) (replicate m blank), length-replicate m blank, length-take n cells) in
    let is = kept_is blank n cells (replicate m blank) (take n cells ++ replicate m blank) refl long (all_blank m blank) in
    rw (← is) (omega (arith, sum_by-append f (take n cells) (replicate m blank), sum_by-replicate f m blank, sum_by-take-drop f cells n))

pub resized_sum : (elem : VarType) (n : ℕ) (cells : List Scalar) → length cells ≤ n
    → sum_by (element_size elem) (kept_by_position (zero_of elem) n cells) ≡ sum_by (element_size elem) cells + (n - length cells) * element_size elem
    (zero_of elem)
resized_sum elem n cells more =
    let none : drop n cells ≡ [] = drop_all n cells more in
    let sum = kept_sum (element_size elem) (zero_of elem) n cells in
    omega (arith, rw none at sum)

pub cut_sum : (elem : VarType) (n : ℕ) (cells : List Scalar) → n < length cells
    → sum_by (element_size elem) (kept_by_position (zero_of elem) n cells) + sum_by (element_size elem) (take (length cells - n) (drop n cells)) ≡ sum_by
    (element_size elem) cells
cut_sum elem n cells less =
    let none : n - length cells ≡ 0 = omega (arith, less) in
    let sum = kept_sum (element_size elem) (zero_of elem) n cells in
    let all : take (length cells - n) (drop n cells) ≡ drop n cells = take_all (length cells - n) (drop n cells) (omega (arith, length-drop n cells)) in
    rw all (omega (arith, rw none at sum))

length-first : (bounds : List Bound) (bound : Bound) → 0 < length bounds → length (with_first bound bounds) ≡ length bounds
length-first [] bound h = absurd (omega (arith, h))
length-first (b ∷ bounds) bound h = refl

-- another first bound
pub redim_sum : (a : ArrayValue Scalar) (bound : Bound) (n gone come : ℕ) → 0 < length a.bounds → n ≡ box_size (with_first bound a.bounds)
    → sum_by (element_size a.elem) (kept_by_position (zero_of a.elem) n a.cells) + gone ≡ sum_by (element_size a.elem) a.cells + come
    → value_size (AnArray (redimensioned (zero_of a.elem) bound a)) + gone ≡ value_size (AnArray a) + come
unfolding value_size
redim_sum a bound n gone come some is h =
    let count = length-first a.bounds bound some in
    omega (arith, rw is at h, count)

-- ---- values

pub element_due : (a : ArrayValue Scalar) (index : List ℤ) (old new : Scalar) → InBounds a.bounds index → array_element a index ≡ Some old
    → fits_type new a.elem ≡ true
    → size_due value_size (with_element_put index new (AnArray a)) (AnArray a) + element_size a.elem old ≡ value_size (AnArray a) + element_size a.elem new
element_due a index old new within there fits = rw ((in_bounds_tells a.bounds index).1 within, fits) (element_sum a index old new there)

pub outside_due : (a : ArrayValue Scalar) (index : List ℤ) (new : Scalar) → (InBounds a.bounds index → ⊥)
    → size_due value_size (with_element_put index new (AnArray a)) (AnArray a) ≡ value_size (AnArray a)
outside_due a index new outside = rw (false_from_ne_true (in_bounds a.bounds index) (λ e. outside ((in_bounds_tells a.bounds index).0 e))) refl

pub redim_due : (a : ArrayValue Scalar) (bound : Bound) (n gone come : ℕ) → 0 < length a.bounds → a.locks ≡ 0 → n ≡ box_size (with_first bound a.bounds)
    → n ≤ max_cells
    → sum_by (element_size a.elem) (kept_by_position (zero_of a.elem) n a.cells) + gone ≡ sum_by (element_size a.elem) a.cells + come
    → size_due value_size (redimensioned_value bound (AnArray a)) (AnArray a) + gone ≡ value_size (AnArray a) + come
redim_due a bound n gone come some free is few h =
    let none : ltb 0 a.locks ≡ false = le-ltb 0 a.locks (omega (arith, free)) in
    let fits : ltb max_cells (box_size (with_first bound a.bounds)) ≡ false = le-ltb max_cells (box_size (with_first bound a.bounds))
    (omega (arith, is, few)) in
    rw (none, fits) (redim_sum a bound n gone come some is h)

-- ---- objects

-- another value of a cell
cell_sum : (place : PlaceValue) (object : ObjectValue) (old new : Variant) → cell_at place object.cells ≡ Some old
    → object_size (with_value place object new) + value_size old ≡ object_size object + value_size new
unfolding object_size
cell_sum place object old new there = omega (arith, set_weight place_size value_size (is_at (place_cmp place)) object.cells old new there)

-- what a change of a value takes and adds, the same change takes from the object and adds to it
pub cell_due : (place : PlaceValue) (change : Variant → Result Variant TableFault) (object : ObjectValue) (value : Variant) (gone come : ℕ)
    → cell_at place object.cells ≡ Some value
    → size_due value_size (change value) value + gone ≡ value_size value + come → size_due object_size (with_change place change object) object + gone
    ≡ object_size object + come
cell_due place change object value gone come there h = rw there (by (change value) h)
  where
    by : (due : Result Variant TableFault) → size_due value_size due value + gone ≡ value_size value + come
        → size_due object_size (mapped (with_value place object) due) object + gone ≡ object_size object + come
    by (Ok new) h = omega (arith, h, cell_sum place object value new there)
    by (Err fault) h = omega (arith, h)

-- a cell is put
pub put_free_due : (place : PlaceValue) (value : Variant) (object : ObjectValue) → cell_at place object.cells ≡ None
    → size_due object_size (with_put place value object) object ≡ object_size object + (place_size place + value_size value)
unfolding object_size
put_free_due place value object none = rw none (omega (arith, put_new cell_size place_cmp object.cells place value none))

pub put_over_due : (place : PlaceValue) (value : Variant) (object : ObjectValue) (old : Variant) → IsStrictlySortedBy place_cmp (keys_of object.cells)
    → cell_at place object.cells ≡ Some old → locks_of old ≡ 0
    → size_due object_size (with_put place value object) object + value_size old ≡ object_size object + value_size value
unfolding object_size
put_over_due place value object old sorted there free =
    rw (there, free, put_there places_total object.cells place old value sorted there)
    (omega (arith, set_weight place_size value_size (is_at (place_cmp place)) object.cells old value there))

-- another value of a cell, by the lists of cells
pub set_sum : (place : PlaceValue) (class : List ℕ) (cells entries : List (PlaceValue × Variant)) (old new : Variant) → cell_at place cells ≡ Some old
    → entries ≡ set_value (is_at (place_cmp place)) cells new
    → object_size (record { class = class; cells = entries }) + value_size old ≡ object_size (record { class = class; cells = cells }) + value_size new
unfolding object_size
set_sum place class cells entries old new there is = rw is (omega (arith, set_weight place_size value_size (is_at (place_cmp place)) cells old new there))

-- a put over a cell that was put is a change of its value
pub put_is_change : (place : PlaceValue) (value : Variant) (object : ObjectValue) (old : Variant) → IsStrictlySortedBy place_cmp (keys_of object.cells)
    → cell_at place object.cells ≡ Some old
    → with_put place value object ≡ with_change place (replaced_value value) object
put_is_change place value object old sorted there = rw (there, put_there places_total object.cells place old value sorted there) (by (eqb (locks_of old) 0))
  where
    by : (b : Bool) → cond b (Ok (with_value place object value)) (Err (Array arrays.IsLocked)) ≡ mapped (with_value place object)
        (cond b (Ok value) (Err (Array arrays.IsLocked)))
    by true = refl
    by false = refl

pub put_free_sum : (place : PlaceValue) (value : Variant) (object new : ObjectValue) → cell_at place object.cells ≡ None
    → with_put place value object ≡ Ok new → object_size new ≡ object_size object + (place_size place + value_size value)
put_free_sum place value object new none is = rw is at (put_free_due place value object none)

-- a put adds no more than the place and the value
pub put_most : (place : PlaceValue) (value : Variant) (object : ObjectValue)
    → size_due object_size (with_put place value object) object ≤ object_size object + (place_size place + value_size value)
unfolding object_size
put_most place value object = by (eqb (locks_of_cell place object) 0)
  where
    by : (b : Bool)
        → size_due object_size (cond b (Ok (record object { cells = insert_entry place_cmp object.cells place value })) (Err (Array arrays.IsLocked))) object
        ≤ object_size object + (place_size place + value_size value)
    by true = omega (arith, put_within place_size value_size place_cmp object.cells place value)
    by false = omega arith

-- ---- tables

size_within : (t : TableValue) (number : ℕ) (object new : ObjectValue) → object_at number t ≡ Some object
    → table_size (with_object number t new) + object_size object ≡ table_size t + object_size new
unfolding table_size
size_within t number object new there = omega (arith, sum_by-set_value object_size (is_at (nat_cmp number)) t.objects object new there)

-- another object of a number, by the lists of objects
pub object_set_sum : (number next : ℕ) (objects entries : List (ℕ × ObjectValue)) (object new : ObjectValue)
    → lookup (is_at (nat_cmp number)) objects ≡ Some object → entries ≡ set_value (is_at (nat_cmp number)) objects new
    → table_size (record { next = next; objects = entries }) + object_size object ≡ table_size (record { next = next; objects = objects }) + object_size new
object_set_sum number next objects entries object new there is = rw is (size_within (record { next = next; objects = objects }) number object new there)

pub object_due : (number : ℕ) (change : ObjectValue → Result ObjectValue TableFault) (t : TableValue) (object : ObjectValue) (gone come : ℕ)
    → object_at number t ≡ Some object
    → size_due object_size (change object) object + gone ≡ object_size object + come → size_due table_size (on_object number change t) t + gone ≡ table_size t
    + come
object_due number change t object gone come there h = rw there (by (change object) h)
  where
    by : (due : Result ObjectValue TableFault) → size_due object_size due object + gone ≡ object_size object + come
        → size_due table_size (mapped (with_object number t) due) t + gone ≡ table_size t + come
    by (Ok new) h = omega (arith, h, size_within t number object new there)
    by (Err fault) h = omega (arith, h)

-- what a change adds at most to an object, it adds at most to the table
pub object_most : (number : ℕ) (change : ObjectValue → Result ObjectValue TableFault) (t : TableValue) (most : ℕ)
    → ((object : ObjectValue) → size_due object_size (change object) object ≤ object_size object + most)
    → size_due table_size (on_object number change t) t ≤ table_size t + most
object_most number change t most h = at (object_at number t) refl
  where
    by : (object : ObjectValue) → object_at number t ≡ Some object → (due : Result ObjectValue TableFault)
        → size_due object_size due object ≤ object_size object + most
        → size_due table_size (mapped (with_object number t) due) t ≤ table_size t + most
    by object there (Ok new) h = omega (arith, h, size_within t number object new there)
    by object there (Err fault) h = omega arith

    at : (o : Option ObjectValue) → object_at number t ≡ o → size_due table_size (on_object number change t) t ≤ table_size t + most
    at None e = rw e (omega arith)
    at (Some object) e = rw e (by object e (change object) (h object))

sized : (o : Option ObjectValue) → unwrap_or (option_map object_size o) 0 ≡ size_in o
sized None = refl
sized (Some object) = refl

-- an object's size is part of the table's
pub object_within : (t : TableValue) (number : ℕ) → size_in (object_at number t) ≤ table_size t
unfolding table_size
object_within t number =
    let sum = sum_by-remove_entry object_size (is_at (nat_cmp number)) t.objects in
    omega (arith, sum, sized (object_at number t))

-- an object comes
pub create_due : (number : ℕ) (class : List ℕ) (t : TableValue) → IsStrictlySortedBy nat_cmp (keys_of t.objects) → number ≡ t.next
    → number ≤ greatest_object_number
    → size_due table_size (applied (Create number class) t) t + size_in (object_at number t) ≡ table_size t + 24
unfolding table_size object_size
create_due number class t sorted is low =
    let next : eqb number t.next ≡ true = eq-eqb number t.next is in
    let used : leb number greatest_object_number ≡ true = le-leb _ _ low in
    let sum = sum_by-insert_entry object_size nat_cmp_total t.objects number (record { class = class; cells = [] }) sorted in
    rw (next, used) (omega (arith, sum, sized (object_at number t)))

-- an object goes
pub release_due : (number : ℕ) (t : TableValue) → locked_in (object_at number t) ≡ false
    → size_due table_size (applied (Release number) t) t + size_in (object_at number t) ≡ table_size t
unfolding table_size
release_due number t free = by (object_at number t) refl free
  where
    by : (o : Option ObjectValue) → object_at number t ≡ o → locked_in o ≡ false → size_due table_size (released_if_live number t o) t + size_in o
        ≡ table_size t
    by None e h = omega arith
    by (Some object) e h =
        let sum = sum_by-remove_entry object_size (is_at (nat_cmp number)) t.objects in
        rw h (omega (arith, rw e at sum))

-- ---- locks

-- no change of the size
abbrev KeepsSize : {T : Type 0} → (T → ℕ) → Result T TableFault → T → Type 0
KeepsSize size due old = size_due size due old ≡ size old

lock_keeps : (value : Variant) → KeepsSize value_size (locked_value value) value
unfolding value_size
lock_keeps (One s) = refl
lock_keeps (AnArray a) = by (eqb a.locks max_cell_locks)
  where
    by : (b : Bool) → KeepsSize value_size (cond b (Err (Array arrays.Unexpected)) (Ok (AnArray (with_locks a (a.locks + 1))))) (AnArray a)
    by true = refl
    by false = refl

unlock_keeps : (value : Variant) → KeepsSize value_size (released_value value) value
unfolding value_size
unlock_keeps (One s) = refl
unlock_keeps (AnArray a) = by (eqb a.locks 0)
  where
    by : (b : Bool) → KeepsSize value_size (cond b (Err (Array arrays.Unexpected)) (Ok (AnArray (with_locks a (a.locks - 1))))) (AnArray a)
    by true = refl
    by false = refl

cell_keeps : (place : PlaceValue) (change : Variant → Result Variant TableFault) → ((value : Variant) → KeepsSize value_size (change value) value)
    → (object : ObjectValue) → KeepsSize object_size (with_change place change object) object
cell_keeps place change keeps object = by (cell_at place object.cells) refl
  where
    by : (o : Option Variant) → cell_at place object.cells ≡ o → KeepsSize object_size (with_change place change object) object
    by None e = rw e refl
    by (Some value) e = omega (arith, cell_due place change object value 0 0 e (omega (arith, keeps value)))

object_keeps : (number : ℕ) (change : ObjectValue → Result ObjectValue TableFault) → ((object : ObjectValue) → KeepsSize object_size (change object) object)
    → (t : TableValue) → KeepsSize table_size (on_object number change t) t
object_keeps number change keeps t = by (object_at number t) refl
  where
    by : (o : Option ObjectValue) → object_at number t ≡ o → KeepsSize table_size (on_object number change t) t
    by None e = rw e refl
    by (Some object) e = omega (arith, object_due number change t object 0 0 e (omega (arith, keeps object)))

-- ---- what is kept

-- after a change that was made
pub kept_after : (due : Result TableValue TableFault) (old new : TableValue) (size : ℕ) → size ≡ size_due table_size due old → due ≡ Ok new
    → size ≤ largest_image → HasKeptSize new size
kept_after due old new size is made small = record { sum = rw made at is; small = small }

counted_keeps : (due : Result TableValue TableFault) (count : TableValue → ℕ) (old new : TableValue) (size : ℕ) (result : Result ℕ TableFault)
    → KeepsSize table_size due old → HasKeptSize old size → CountsLocks due count old new result → HasKeptSize new size
counted_keeps due count old new size (Ok n) keeps kept h = kept_after due old new size (kept.sum ∙ sym keeps) h.0 kept.small
counted_keeps due count old new size (Err fault) keeps kept h = subst (λ t. HasKeptSize t size) (sym h.1) kept

pub kept_locked : (name : CellName) (old new : TableValue) (size : ℕ) (result : Result ℕ TableFault) → HasKeptSize old size
    → CountsLocks (with_lock name old) (locks_at name) old new result → HasKeptSize new size
kept_locked name old new size result kept h =
    counted_keeps (with_lock name old) (locks_at name) old new size result
    (object_keeps name.object (with_change name.place locked_value) (cell_keeps name.place locked_value lock_keeps) old) kept h

pub kept_unlocked : (name : CellName) (old new : TableValue) (size : ℕ) (result : Result ℕ TableFault) → HasKeptSize old size
    → CountsLocks (without_lock name old) (locks_at name) old new result → HasKeptSize new size
kept_unlocked name old new size result kept h =
    counted_keeps (without_lock name old) (locks_at name) old new size result
    (object_keeps name.object (with_change name.place released_value) (cell_keeps name.place released_value unlock_keeps) old) kept h
