-- What is counted of locks, where one is taken, one is given back, or an event applies.
use Rattle.std.proofs.Common.{◌≡◌, ℕ, suc, zero, suc, ◌+◌, ◌-◌, ◌==◌, arith, Bool, true, false, true≢false, List, [], ◌∷◌, ◌++◌, map, Option, Some, None}
use Rattle.std.proofs.Common.{Result, Ok, Err, refl, sym, ap, ◌∙◌, subst}
use Rattle.std.specs.Prelude.{◌&&◌, ◌||◌, not, nat_lt, nat_le, if◌then◌else◌, ℤ}
use Rattle.std.specs.BTreeMap.{insert_entry, is_at}
use Rattle.std.specs.Cmp.{unsigned_tied}
use Rattle.std.specs.List.{list_any}
use Rattle.std.specs.List.Sorted.{IsStrictlySortedBy}
use Rattle.std.specs.Map.{keys_of, remove_entry, values_of}
use Rattle.std.specs.Ordering.{is_eq, match_ordering, nat_cmp, ordering_then}
use Rattle.std.specs.declared.cmp.Ordering.{Ordering}
use Rattle.std.specs.declared.cmp.Ordering.TheVariants.{Less, Equal, Greater}
use Rattle.std.proofs.lemmas.Bool.{and_parts, eq-eqb, eqb-true}
use Rattle.std.proofs.lemmas.Cmp.{eq_by_cmp_equiv, nat_cmp_total}
use Rattle.std.proofs.lemmas.Map.{keys-set_value, lookup-remove_entry}
use Rattle.std.proofs.lemmas.Map.Keys.{IsDistinct-from_sorted}
use Rattle.oa_model.specs.promise.Limits.{greatest_object_number, max_cell_locks, max_cells}
use Rattle.oa_model.specs.declared.bound.Bound.{Bound}
use Rattle.oa_turn.proofs.CellOrder.{cell_laws, is_equal}
use Rattle.oa_turn.specs.promise.ClientLocks.{ClientLock, cell_cmp, cells_of, is_cell, is_lock_of, lock_cmp, of_others}
use Rattle.oa_turn.specs.promise.ClientLocks.{owns, with_one, without_first, without_one}
use Rattle.oa_turn.specs.Counts.{HasLocks, count_in, locked_name}
use Rattle.std.proofs.lemmas.Map.Steps.{set_value_same}
use Rattle.oa_turn.proofs.Finding.{found_again, found_put, found_set, same_found, set_twice, sorted_put, sorted_removed}
use Rattle.oa_array.specs.promise.Arrays.{redimensioned, with_cell, with_first, with_locks}
use Rattle.oa_array.specs.promise.Boxes.{box_size}
use Rattle.oa_array.specs.promise.Within.{in_bounds}
use Rattle.oa_array.specs.declared.fault.ArrayFault.TheVariants as arrays
use Rattle.oa_variant.specs.promise.Scalars.{fits_type, zero_of}
use Rattle.oa_variant.specs.declared.scalar.Scalar.{Scalar}
use Rattle.oa_variant.specs.declared.variant.Variant.{Variant}
use Rattle.oa_variant.specs.declared.variant.Variant.TheVariants.{One, Array as AnArray}
use Rattle.oa_table.specs.promise.Elements.{is_locked, locked_value, locks_in, locks_of, redimensioned_value}
use Rattle.oa_table.specs.promise.Elements.{released_value, with_element_put}
use Rattle.oa_table.specs.Events.{BringsNoLocks}
use Rattle.oa_table.specs.promise.Events.{applied, changed_if_live, created, on_object, released, released_if_live}
use Rattle.oa_table.specs.promise.Events.{with_object}
use Rattle.oa_table.specs.Locks.{locks_at}
use Rattle.oa_table.specs.promise.Locks.{with_lock, without_lock}
use Rattle.oa_table.specs.promise.Objects.{any_locked, changed_if_put, with_change, with_put, with_value}
use Rattle.oa_table.specs.promise.Outcomes.{mapped}
use Rattle.oa_table.specs.promise.Places.{PlaceValue, place_cmp}
use Rattle.oa_table.specs.Places.{places_total}
use Rattle.oa_table.specs.promise.Tables.{ObjectValue, TableValue, cell_at, cell_in, object_at}
use Rattle.oa_table.specs.declared.event.Event.{Event}
use Rattle.oa_table.specs.declared.event.Event.TheVariants.{Create, Release, Put, PutElement, Redim}
use Rattle.oa_table.specs.declared.fault.TableFault.{TableFault}
use Rattle.oa_table.specs.declared.fault.TableFault.TheVariants.{Array, WrongNumber}
use Rattle.oa_table.specs.declared.name.CellName.{CellName}

abbrev one_if : Bool → ℕ
one_if b = if b then 1 else 0

pub count_first : (name other : CellName) (names : List CellName) → count_in name (other ∷ names) ≡ one_if (is_cell other name) + count_in name names
unfolding count_in
count_first name other names = refl

pub count_none : (name : CellName) → count_in name [] ≡ 0
unfolding count_in
count_none name = refl

pub itself : (name : CellName) → is_cell name name ≡ true
itself name = cell_laws.refl name

pub same_cells : (one two other : CellName) → is_cell one two ≡ true → is_cell one other ≡ is_cell two other
same_cells one two other same = cell_laws.congr one two other same

-- two names of one cell
pub same_locks_at : (one two : CellName) (table : TableValue) → is_cell one two ≡ true → locks_at one table ≡ locks_at two table
same_locks_at one two table same =
    let parts = and_parts (one.object == two.object) (is_eq (place_cmp one.place two.place)) same in
    ap (λ (n : ℕ). locks_in (cell_in one.place (object_at n table))) (eqb-true one.object two.object parts.0) ∙ by (object_at two.object table) parts.1
  where
    by : (o : Option ObjectValue) → is_eq (place_cmp one.place two.place) ≡ true → locks_in (cell_in one.place o) ≡ locks_in (cell_in two.place o)
    by None e = refl
    by (Some object) e = ap locks_in (same_found places_total one.place two.place object.cells e)

-- ---- an object in which a cell was set
abbrev at_place : PlaceValue → ObjectValue → ℕ
at_place place object = locks_in (cell_at place object.cells)

abbrev Changes : PlaceValue → ℕ → ObjectValue → ObjectValue → Type 0
Changes place n old new = (other : PlaceValue) → at_place other new ≡ (if is_eq (place_cmp place other) then n else at_place other old)

-- a table in which one was
abbrev Sets : CellName → ℕ → TableValue → TableValue → Type 0
Sets name n old new = (other : CellName) → locks_at other new ≡ (if is_cell name other then n else locks_at other old)

value_set : (place : PlaceValue) (object : ObjectValue) (old new : Variant) → cell_at place object.cells ≡ Some old
    → Changes place (locks_of new) object (with_value place object new)
value_set place object old new found other = ap locks_in (found_set places_total place other object.cells old new found) ∙ by (is_eq (place_cmp place other))
  where
    by : (b : Bool) → locks_in (if b then Some new else cell_at other object.cells) ≡ (if b then locks_of new else at_place other object)
    by true = refl
    by false = refl

value_put : (place : PlaceValue) (object : ObjectValue) (new : Variant)
    → Changes place (locks_of new) object (record object { cells = insert_entry place_cmp object.cells place new })
value_put place object new other = ap locks_in (found_put places_total place other object.cells new) ∙ by (is_eq (place_cmp place other))
  where
    by : (b : Bool) → locks_in (if b then Some new else cell_at other object.cells) ≡ (if b then locks_of new else at_place other object)
    by true = refl
    by false = refl

object_set : (name : CellName) (n : ℕ) (table : TableValue) (old new : ObjectValue) → object_at name.object table ≡ Some old → Changes name.place n old new
    → Sets name n table (with_object name.object table new)
object_set name n table old new found changes other =
    ap (λ (o : Option ObjectValue). locks_in (cell_in other.place o)) (found_set nat_cmp_total name.object other.object table.objects old new found)
    ∙ ap at_test (unsigned_tied name.object other.object) ∙ by (name.object == other.object) refl
  where
    at_test : Bool → ℕ
    at_test b = locks_in (cell_in other.place (if b then Some new else object_at other.object table))

    by : (b : Bool) → (name.object == other.object) ≡ b
        → locks_in (cell_in other.place (if b then Some new else object_at other.object table))
        ≡ (if b && is_eq (place_cmp name.place other.place) then n else locks_at other table)
    by true e =
        let there : at_place other.place old ≡ locks_at other table = ap (λ (o : Option ObjectValue). locks_in (cell_in other.place o))
        (sym found ∙ ap (λ (k : ℕ). object_at k table) (eqb-true name.object other.object e)) in
        changes other.place ∙ ap (λ (k : ℕ). if is_eq (place_cmp name.place other.place) then n else k) there
    by false e = refl

-- ---- what a change was made of
record MadeOn (number : ℕ) (change : ObjectValue → Result ObjectValue TableFault) (table new : TableValue) : Type 0 where
  old : ObjectValue
  mid : ObjectValue
  found : object_at number table ≡ Some old
  makes : change old ≡ Ok mid
  is : new ≡ with_object number table mid

abbrev made : {X : Type 0} → X → Result X TableFault
made x = Ok x

same_ok : {X : Type 0} (x y : X) → made x ≡ made y → x ≡ y
same_ok x y e = cc

made_on : (number : ℕ) (change : ObjectValue → Result ObjectValue TableFault) (table new : TableValue) → on_object number change table ≡ Ok new
    → MadeOn number change table new
made_on number change table new e = by (object_at number table) refl e
  where
    on : (old : ObjectValue) → object_at number table ≡ Some old → (due : Result ObjectValue TableFault) → change old ≡ due
        → mapped (with_object number table) due ≡ Ok new → MadeOn number change table new
    on old found (Ok mid) makes is = record { old = old; mid = mid; found = found; makes = makes; is = sym (same_ok _ _ is) }
    on old found (Err fault) makes is = absurd cc

    by : (o : Option ObjectValue) → object_at number table ≡ o → changed_if_live number change table o ≡ Ok new → MadeOn number change table new
    by None found is = absurd cc
    by (Some old) found is = on old found (change old) refl is

record MadeIn (place : PlaceValue) (change : Variant → Result Variant TableFault) (object new : ObjectValue) : Type 0 where
  old : Variant
  mid : Variant
  found : cell_at place object.cells ≡ Some old
  makes : change old ≡ Ok mid
  is : new ≡ with_value place object mid

made_in : (place : PlaceValue) (change : Variant → Result Variant TableFault) (object new : ObjectValue) → with_change place change object ≡ Ok new
    → MadeIn place change object new
made_in place change object new e = by (cell_at place object.cells) refl e
  where
    on : (old : Variant) → cell_at place object.cells ≡ Some old → (due : Result Variant TableFault) → change old ≡ due
        → mapped (with_value place object) due ≡ Ok new → MadeIn place change object new
    on old found (Ok mid) makes is = record { old = old; mid = mid; found = found; makes = makes; is = sym (same_ok _ _ is) }
    on old found (Err fault) makes is = absurd cc

    by : (o : Option Variant) → cell_at place object.cells ≡ o → changed_if_put place change object o ≡ Ok new → MadeIn place change object new
    by None found is = absurd cc
    by (Some old) found is = on old found (change old) refl is

-- the value of a cell was changed
record ChangesCell (name : CellName) (change : Variant → Result Variant TableFault) (table new : TableValue) : Type 0 where
  old : Variant
  mid : Variant
  makes : change old ≡ Ok mid
  was : locks_at name table ≡ locks_of old
  sets : Sets name (locks_of mid) table new

changes_cell : (name : CellName) (change : Variant → Result Variant TableFault) (table new : TableValue)
    → on_object name.object (with_change name.place change) table ≡ Ok new → ChangesCell name change table new
changes_cell name change table new e =
    let on = made_on name.object (with_change name.place change) table new e in
    let within = made_in name.place change on.old on.mid on.makes in
    record {
      old = within.old;
      mid = within.mid;
      makes = within.makes;
      was = ap (λ (o : Option ObjectValue). locks_in (cell_in name.place o)) on.found ∙ ap locks_in within.found;
      sets = subst (λ (t : TableValue). Sets name (locks_of within.mid) table t) (sym on.is)
          (object_set name (locks_of within.mid) table on.old on.mid on.found
          (subst (λ (o : ObjectValue). Changes name.place (locks_of within.mid) on.old o) (sym within.is)
          (value_set name.place on.old within.old within.mid within.found)));
    }

-- where the locks of that cell stay, all do
all_stay : (name : CellName) (n : ℕ) (old new : TableValue) → locks_at name old ≡ n → Sets name n old new → (other : CellName)
    → locks_at other new ≡ locks_at other old
all_stay name n old new is sets other = sets other ∙ by (is_cell name other) refl
  where
    by : (b : Bool) → is_cell name other ≡ b → (if b then n else locks_at other old) ≡ locks_at other old
    by true e = sym is ∙ same_locks_at name other old e
    by false e = refl

-- ---- values
lock_more : (old new : Variant) → locked_value old ≡ Ok new → locks_of new ≡ locks_of old + 1
lock_more (One s) new e = absurd cc
lock_more (AnArray a) new e = by (a.locks == max_cell_locks) e
  where
    by : (b : Bool) → (if b then Err (Array arrays.Unexpected) else Ok (AnArray (with_locks a (a.locks + 1)))) ≡ Ok new → locks_of new ≡ a.locks + 1
    by true is = absurd cc
    by false is = ap locks_of (sym (same_ok _ _ is))

lock_less : (old new : Variant) → released_value old ≡ Ok new → locks_of old ≡ locks_of new + 1
lock_less (One s) new e = absurd cc
lock_less (AnArray a) new e = by (a.locks == 0) refl e
  where
    by : (b : Bool) → (a.locks == 0) ≡ b → (if b then Err (Array arrays.Unexpected) else Ok (AnArray (with_locks a (a.locks - 1)))) ≡ Ok new
        → a.locks ≡ locks_of new + 1
    by true some is = absurd cc
    by false some is = let left : locks_of new ≡ a.locks - 1 = ap locks_of (sym (same_ok _ _ is)) in above a.locks (locks_of new) some left
      where
        above : (n k : ℕ) → (n == 0) ≡ false → k ≡ n - 1 → n ≡ k + 1
        above zero k test left = absurd (true≢false test)
        above (suc n) k test left = omega (arith, left)

element_same : (index : List ℤ) (element : Scalar) (old new : Variant) → with_element_put index element old ≡ Ok new → locks_of old ≡ locks_of new
element_same index element (One s) new e = absurd cc
element_same index element (AnArray a) new e = by (in_bounds a.bounds index) (fits_type element a.elem) e
  where
    by : (b c : Bool) → (if b then (if c then Ok (AnArray (with_cell a index element)) else Err (Array arrays.TypeMismatch)) else Err (Array arrays.BadIndex))
        ≡ Ok new → a.locks ≡ locks_of new
    by true true is = ap locks_of (same_ok _ _ is)
    by true false is = absurd cc
    by false c is = absurd cc

pub redim_same : (bound : Bound) (old new : Variant) → redimensioned_value bound old ≡ Ok new → locks_of old ≡ locks_of new
redim_same bound (One s) new e = absurd cc
redim_same bound (AnArray a) new e = by (nat_lt 0 a.locks) (nat_lt max_cells (box_size (with_first bound a.bounds))) e
  where
    by : (b c : Bool)
        → (if b then Err (Array arrays.IsLocked) else if c then Err (Array arrays.InvalidArgument) else Ok (AnArray (redimensioned (zero_of a.elem) bound a)))
        ≡ Ok new → a.locks ≡ locks_of new
    by true c is = absurd cc
    by false true is = absurd cc
    by false false is = ap locks_of (same_ok _ _ is)

-- ---- a lock is taken, or given back
count_more : (name other : CellName) (names : List CellName) (n : ℕ) (old new : TableValue) → HasLocks names old → Sets name n old new
    → n ≡ locks_at name old + 1 → locks_at other new ≡ count_in other (name ∷ names)
count_more name other names n old new has sets more = sets other ∙ by (is_cell name other) refl ∙ sym (count_first other name names)
  where
    by : (b : Bool) → is_cell name other ≡ b → (if b then n else locks_at other old) ≡ one_if b + count_in other names
    by true e = let same : locks_at name old ≡ locks_at other old = same_locks_at name other old e in omega (arith, more, same, has other)
    by false e = omega (arith, has other)

pub lock_counted : (name : CellName) (names : List CellName) (old new : TableValue) → with_lock name old ≡ Ok new → HasLocks names old
    → HasLocks (name ∷ names) new
lock_counted name names old new e has other =
    let one = changes_cell name locked_value old new e in
    count_more name other names (locks_of one.mid) old new has one.sets (lock_more one.old one.mid one.makes ∙ ap (λ (k : ℕ). k + 1) (sym one.was))

count_fewer : (name other : CellName) (names : List CellName) (n : ℕ) (old new : TableValue) → HasLocks (name ∷ names) old → Sets name n old new
    → locks_at name old ≡ n + 1 → locks_at other new ≡ count_in other names
count_fewer name other names n old new has sets fewer = sets other ∙ by (is_cell name other) refl (has other ∙ count_first other name names)
  where
    by : (b : Bool) → is_cell name other ≡ b → locks_at other old ≡ one_if b + count_in other names
        → (if b then n else locks_at other old) ≡ count_in other names
    by true e there = let same : locks_at name old ≡ locks_at other old = same_locks_at name other old e in omega (arith, fewer, same, there)
    by false e there = omega (arith, there)

pub unlock_counted : (name : CellName) (names : List CellName) (old new : TableValue) → without_lock name old ≡ Ok new → HasLocks (name ∷ names) old
    → HasLocks names new
unlock_counted name names old new e has other =
    let one = changes_cell name released_value old new e in
    count_fewer name other names (locks_of one.mid) old new has one.sets (one.was ∙ lock_less one.old one.mid one.makes)

-- a lock that is counted can be given back
pub can_unlock : (name : CellName) (names : List CellName) (old : TableValue) → HasLocks (name ∷ names) old → (new : TableValue)
    × (without_lock name old ≡ Ok new)
can_unlock name names old has = by (object_at name.object old) refl some
  where
    some : locks_at name old ≡ 1 + count_in name names
    some = has name ∙ count_first name name names ∙ ap (λ (b : Bool). one_if b + count_in name names) (itself name)

    on_value : (object : ObjectValue) (value : Variant) → locks_of value ≡ 1 + count_in name names → (new : ObjectValue)
        × (mapped (with_value name.place object) (released_value value) ≡ Ok new)
    on_value object (One s) has_one = absurd (omega (arith, has_one))
    on_value object (AnArray a) has_one = at (a.locks == 0) refl
      where
        at : (b : Bool) → (a.locks == 0) ≡ b → (new : ObjectValue)
            × (mapped (with_value name.place object) (if b then Err (Array arrays.Unexpected) else Ok (AnArray (with_locks a (a.locks - 1)))) ≡ Ok new)
        at true none = let zero_locks : a.locks ≡ 0 = eqb-true a.locks 0 none in absurd (omega (arith, zero_locks, has_one))
        at false none = (with_value name.place object (AnArray (with_locks a (a.locks - 1))), refl)

    on_object_found : (object : ObjectValue) → locks_in (cell_at name.place object.cells) ≡ 1 + count_in name names → (new : ObjectValue)
        × (with_change name.place released_value object ≡ Ok new)
    on_object_found object has_one = at (cell_at name.place object.cells) has_one
      where
        at : (o : Option Variant) → locks_in o ≡ 1 + count_in name names → (new : ObjectValue) × (changed_if_put name.place released_value object o ≡ Ok new)
        at None has_none = absurd (omega (arith, has_none))
        at (Some value) has_value = on_value object value has_value

    by : (o : Option ObjectValue) → object_at name.object old ≡ o → locks_in (cell_in name.place o) ≡ 1 + count_in name names → (new : TableValue)
        × (changed_if_live name.object (with_change name.place released_value) old o ≡ Ok new)
    by None found has_none = absurd (omega (arith, has_none))
    by (Some object) found has_object =
        let one = on_object_found object has_object in
        (with_object name.object old one.0, ap (λ (due : Result ObjectValue TableFault). mapped (with_object name.object old) due) one.1)

-- a lock that was taken and is given back has changed nothing
value_back : (old new : Variant) → locked_value old ≡ Ok new → released_value new ≡ Ok old
value_back (One s) new e = absurd cc
value_back (AnArray a) new e = by (a.locks == max_cell_locks) e
  where
    fewer : (n : ℕ) → (n + 1) - 1 ≡ n
    fewer n = omega arith

    some : (n : ℕ) (b : Bool) → (n + 1 == 0) ≡ b → b ≡ false
    some n true e = absurd (omega (arith, eqb-true (n + 1) 0 e))
    some n false e = refl

    given : released_value (AnArray (with_locks a (a.locks + 1))) ≡ Ok (AnArray a)
    given =
        ap (λ (b : Bool). if b then Err (Array arrays.Unexpected) else Ok (AnArray (with_locks a ((a.locks + 1) - 1)))) (some a.locks (a.locks + 1 == 0) refl)
        ∙ ap (λ (n : ℕ). Ok (AnArray (with_locks a n))) (fewer a.locks)

    by : (b : Bool) → (if b then Err (Array arrays.Unexpected) else Ok (AnArray (with_locks a (a.locks + 1)))) ≡ Ok new → released_value new ≡ Ok (AnArray a)
    by true is = absurd cc
    by false is = ap released_value (sym (same_ok _ _ is)) ∙ given

object_back : (place : PlaceValue) (object new : ObjectValue) → with_change place locked_value object ≡ Ok new
    → with_change place released_value new ≡ Ok object
object_back place object new e =
    let on = made_in place locked_value object new e in
    ap (λ (o : ObjectValue). with_change place released_value o) on.is
    ∙ ap (λ (o : Option Variant). changed_if_put place released_value (with_value place object on.mid) o)
    (found_again (is_at (place_cmp place)) object.cells on.old on.mid on.found)
    ∙ ap (λ (r : Result Variant TableFault). mapped (with_value place (with_value place object on.mid)) r) (value_back on.old on.mid on.makes)
    ∙ ap (λ (cells : List (PlaceValue × Variant)). Ok (record object { cells = cells }))
    (set_twice (is_at (place_cmp place)) object.cells on.mid on.old ∙ set_value_same (is_at (place_cmp place)) object.cells on.old on.found)

pub lock_back : (name : CellName) (table new : TableValue) → with_lock name table ≡ Ok new → without_lock name new ≡ Ok table
lock_back name table new e =
    let on = made_on name.object (with_change name.place locked_value) table new e in
    ap (λ (t : TableValue). on_object name.object (with_change name.place released_value) t) on.is
    ∙ ap (λ (o : Option ObjectValue). changed_if_live name.object (with_change name.place released_value) (with_object name.object table on.mid) o)
    (found_again (is_at (nat_cmp name.object)) table.objects on.old on.mid on.found)
    ∙ ap (λ (r : Result ObjectValue TableFault). mapped (with_object name.object (with_object name.object table on.mid)) r)
    (object_back name.place on.old on.mid on.makes)
    ∙ ap (λ (objects : List (ℕ × ObjectValue)). Ok (record table { objects = objects }))
    (set_twice (is_at (nat_cmp name.object)) table.objects on.mid on.old ∙ set_value_same (is_at (nat_cmp name.object)) table.objects on.old on.found)

-- ---- events
put_stays : (name : CellName) (value : Variant) (old new : TableValue) → locks_of value ≡ 0 → on_object name.object (with_put name.place value) old ≡ Ok new
    → (other : CellName) → locks_at other new ≡ locks_at other old
put_stays name value old new none e other =
    let on = made_on name.object (with_put name.place value) old new e in
    let due = put_made name.place value on.old on.mid on.makes in
    let was : locks_at name old ≡ locks_of value = ap (λ (o : Option ObjectValue). locks_in (cell_in name.place o)) on.found ∙ due.0 ∙ sym none in
    all_stay name (locks_of value) old new was
    (subst (λ (t : TableValue). Sets name (locks_of value) old t) (sym on.is)
    (object_set name (locks_of value) old on.old on.mid on.found
    (subst (λ (o : ObjectValue). Changes name.place (locks_of value) on.old o) (sym due.1) (value_put name.place on.old value)))) other
  where
    put_made : (place : PlaceValue) (v : Variant) (object mid : ObjectValue) → with_put place v object ≡ Ok mid → (at_place place object ≡ 0)
        × (mid ≡ record object { cells = insert_entry place_cmp object.cells place v })
    put_made place v object mid makes = at (at_place place object == 0) refl makes
      where
        at : (b : Bool) → (at_place place object == 0) ≡ b
            → (if b then Ok (record object { cells = insert_entry place_cmp object.cells place v }) else Err (Array arrays.IsLocked)) ≡ Ok mid
            → (at_place place object ≡ 0) × (mid ≡ record object { cells = insert_entry place_cmp object.cells place v })
        at true test is = (eqb-true (at_place place object) 0 test, sym (same_ok _ _ is))
        at false test is = absurd cc

change_stays : (name : CellName) (change : Variant → Result Variant TableFault) (old new : TableValue)
    → ((one two : Variant) → change one ≡ Ok two → locks_of one ≡ locks_of two)
    → on_object name.object (with_change name.place change) old ≡ Ok new → (other : CellName) → locks_at other new ≡ locks_at other old
change_stays name change old new same e other =
    let one = changes_cell name change old new e in all_stay name (locks_of one.mid) old new (one.was ∙ same one.old one.mid one.makes) one.sets other

create_stays : (number : ℕ) (object : ObjectValue) (old new : TableValue) → object.cells ≡ [] → object_at old.next old ≡ None
    → created number object old ≡ Ok new → (other : CellName) → locks_at other new ≡ locks_at other old
create_stays number object old new empty fresh e other = at (number == old.next) (nat_le number greatest_object_number) refl e
  where
    at_test : Bool → ℕ
    at_test b = locks_in (cell_in other.place (if b then Some object else object_at other.object old))

    by : (b : Bool) → (number == other.object) ≡ b → (number == old.next) ≡ true → at_test b ≡ locks_at other old
    by true same is =
        let here : other.object ≡ old.next = sym (eqb-true number other.object same) ∙ eqb-true number old.next is in
        ap (λ (cells : List (PlaceValue × Variant)). locks_in (cell_at other.place cells)) empty
        ∙ sym (ap (λ (o : Option ObjectValue). locks_in (cell_in other.place o)) (ap (λ (k : ℕ). object_at k old) here ∙ fresh))
    by false same is = refl

    at : (b c : Bool) → (number == old.next) ≡ b
        → (if b && c then Ok (record { next = number + 1; objects = insert_entry nat_cmp old.objects number object }) else Err WrongNumber) ≡ Ok new
        → locks_at other new ≡ locks_at other old
    at true true is makes =
        ap (λ (t : TableValue). locks_at other t) (sym (same_ok _ _ makes))
        ∙ ap (λ (o : Option ObjectValue). locks_in (cell_in other.place o)) (found_put nat_cmp_total number other.object old.objects object)
        ∙ ap at_test (unsigned_tied number other.object) ∙ by (number == other.object) refl is
    at true false is makes = absurd cc
    at false c is makes = absurd cc

none_locked : (place : PlaceValue) (cells : List (PlaceValue × Variant)) → any_locked cells ≡ false → locks_in (cell_at place cells) ≡ 0
none_locked place [] e = refl
none_locked place (cell ∷ cells) e = by (is_locked cell.1) refl e (none_locked place cells)
  where
    unlocked_one : (n : ℕ) (b : Bool) → (n == 0) ≡ b → not b ≡ false → n ≡ 0
    unlocked_one n true test is = eqb-true n 0 test
    unlocked_one n false test is = absurd (true≢false is)

    on : (b : Bool) → locks_of cell.1 ≡ 0 → locks_in (cell_at place cells) ≡ 0 → locks_in (if b then Some cell.1 else cell_at place cells) ≡ 0
    on true none rest = none
    on false none rest = rest

    by : (b : Bool) → is_locked cell.1 ≡ b → (b || list_any is_locked (values_of cells)) ≡ false
        → (any_locked cells ≡ false → locks_in (cell_at place cells) ≡ 0) → locks_in (cell_at place (cell ∷ cells)) ≡ 0
    by true locked test rest = absurd (true≢false test)
    by false locked test rest = on (is_eq (place_cmp place cell.0)) (unlocked_one (locks_of cell.1) (locks_of cell.1 == 0) refl locked) (rest test)

release_stays : (number : ℕ) (old new : TableValue) → IsStrictlySortedBy nat_cmp (keys_of old.objects) → released number old ≡ Ok new → (other : CellName)
    → locks_at other new ≡ locks_at other old
release_stays number old new sorted e other = by (object_at number old) refl e
  where
    left : Bool → ℕ
    left b = locks_in (cell_in other.place (if b then None else object_at other.object old))

    gone : object_at other.object (record old { objects = remove_entry (is_at (nat_cmp number)) old.objects })
        ≡ (if is_eq (nat_cmp number other.object) then None else object_at other.object old)
    gone = lookup-remove_entry (eq_by_cmp_equiv nat_cmp_total) (is_at (nat_cmp number)) (λ x y here. (eq_by_cmp_equiv nat_cmp_total).congr number x y here)
        other.object old.objects (IsDistinct-from_sorted nat_cmp (keys_of old.objects) sorted)

    here : (object : ObjectValue) → object_at number old ≡ Some object → any_locked object.cells ≡ false → (b : Bool) → (number == other.object) ≡ b
        → left b ≡ locks_at other old
    here object found none true same =
        sym (ap (λ (k : ℕ). locks_in (cell_in other.place (object_at k old))) (sym (eqb-true number other.object same))
        ∙ ap (λ (o : Option ObjectValue). locks_in (cell_in other.place o)) found ∙ none_locked other.place object.cells none)
    here object found none false same = refl

    on : (object : ObjectValue) → object_at number old ≡ Some object → (b : Bool) → any_locked object.cells ≡ b
        → (if b then Err (Array arrays.IsLocked) else Ok (record old { objects = remove_entry (is_at (nat_cmp number)) old.objects })) ≡ Ok new
        → locks_at other new ≡ locks_at other old
    on object found true locked makes = absurd cc
    on object found false none makes =
        ap (λ (t : TableValue). locks_at other t) (sym (same_ok _ _ makes)) ∙ ap (λ (o : Option ObjectValue). locks_in (cell_in other.place o)) gone
        ∙ ap left (unsigned_tied number other.object) ∙ here object found none (number == other.object) refl

    by : (o : Option ObjectValue) → object_at number old ≡ o → released_if_live number old o ≡ Ok new → locks_at other new ≡ locks_at other old
    by None found makes = absurd cc
    by (Some object) found makes = on object found (any_locked object.cells) refl makes

-- an event leaves the locks of every array
pub event_stays : (event : Event) (old new : TableValue) → IsStrictlySortedBy nat_cmp (keys_of old.objects) → object_at old.next old ≡ None
    → BringsNoLocks event → applied event old ≡ Ok new → (other : CellName)
    → locks_at other new ≡ locks_at other old
event_stays (Create number class) old new sorted fresh none e other = create_stays number (record { class = class; cells = [] }) old new refl fresh e other
event_stays (Release number) old new sorted fresh none e other = release_stays number old new sorted e other
event_stays (Put name value) old new sorted fresh none e other = put_stays name value old new none e other
event_stays (PutElement name index value) old new sorted fresh none e other = change_stays name (with_element_put index value) old new
    (element_same index value) e other
event_stays (Redim name bound) old new sorted fresh none e other = change_stays name (redimensioned_value bound) old new (redim_same bound) e other

-- ---- the order of the objects stays
abbrev IsOrdered : TableValue → Type 0
IsOrdered table = IsStrictlySortedBy nat_cmp (keys_of table.objects)

pub object_ordered : (number : ℕ) (change : ObjectValue → Result ObjectValue TableFault) (old new : TableValue)
    → IsStrictlySortedBy nat_cmp (keys_of old.objects) → on_object number change old ≡ Ok new → IsStrictlySortedBy nat_cmp (keys_of new.objects)
object_ordered number change old new sorted e =
    let on = made_on number change old new e in
    subst IsOrdered (sym on.is) (subst (λ (keys : List ℕ). IsStrictlySortedBy nat_cmp keys) (sym (keys-set_value (is_at (nat_cmp number)) old.objects on.mid))
    sorted)

pub event_ordered : (event : Event) (old new : TableValue) → IsStrictlySortedBy nat_cmp (keys_of old.objects) → applied event old ≡ Ok new
    → IsStrictlySortedBy nat_cmp (keys_of new.objects)
event_ordered (Create number class) old new sorted e = by (number == old.next) (nat_le number greatest_object_number) e
  where
    by : (b c : Bool)
        → (if b && c then Ok (record { next = number + 1; objects = insert_entry nat_cmp old.objects number (record { class = class; cells = [] }) }) else Err
        WrongNumber) ≡ Ok new → IsOrdered new
    by true true is = subst IsOrdered (same_ok _ _ is) (sorted_put nat_cmp_total number (record { class = class; cells = [] }) old.objects sorted)
    by true false is = absurd cc
    by false c is = absurd cc
event_ordered (Release number) old new sorted e = by (object_at number old) e
  where
    on : (b : Bool) → (if b then Err (Array arrays.IsLocked) else Ok (record old { objects = remove_entry (is_at (nat_cmp number)) old.objects })) ≡ Ok new
        → IsOrdered new
    on true is = absurd cc
    on false is = subst IsOrdered (same_ok _ _ is) (sorted_removed nat_cmp_total (is_at (nat_cmp number)) old.objects sorted)

    by : (o : Option ObjectValue) → released_if_live number old o ≡ Ok new → IsOrdered new
    by None is = absurd cc
    by (Some object) is = on (any_locked object.cells) is
event_ordered (Put name value) old new sorted e = object_ordered name.object (with_put name.place value) old new sorted e
event_ordered (PutElement name index value) old new sorted e =
    object_ordered name.object (with_change name.place (with_element_put index value)) old new sorted e
event_ordered (Redim name bound) old new sorted e = object_ordered name.object (with_change name.place (redimensioned_value bound)) old new sorted e

-- ---- locks with their owners
pub count_split : (name : CellName) (front back : List CellName) → count_in name (front ++ back) ≡ count_in name front + count_in name back
count_split name [] back = omega (arith, count_none name)
count_split name (x ∷ front) back = omega (arith, count_first name x (front ++ back), count_first name x front, count_split name front back)

-- in any order
pub has_same : (one two : List CellName) (table : TableValue) → ((name : CellName) → count_in name one ≡ count_in name two) → HasLocks one table
    → HasLocks two table
has_same one two table same has name = has name ∙ same name

-- one lock more
pub count_more_of : (name : CellName) (locks : List ClientLock) (client : ℕ) (own : CellName) → count_in name (own ∷ map locked_name locks) ≡ count_in name
    (map locked_name (with_one client own locks))
count_more_of name [] client own = refl
count_more_of name (x ∷ locks) client own = by (lock_cmp new x) refl (count_more_of name locks client own)
  where
    new : ClientLock
    new = record { client = client; name = own }

    same_cell : (o p : Ordering) → ordering_then o p ≡ Equal → is_eq p ≡ true
    same_cell Less p e = absurd cc
    same_cell Equal p e = ap is_eq e
    same_cell Greater p e = absurd cc

    by : (o : Ordering) → lock_cmp new x ≡ o → count_in name (own ∷ map locked_name locks) ≡ count_in name (map locked_name (with_one client own locks))
        → count_in name (own ∷ x.name ∷ map locked_name locks) ≡ count_in name
        (map locked_name (match_ordering o (new ∷ x ∷ locks) (x ∷ x ∷ locks) (x ∷ with_one client own locks)))
    by Less e rest = refl
    by Equal e rest =
        let one : is_cell own x.name ≡ true = sym (is_equal own x.name) ∙ same_cell (nat_cmp client x.client) (cell_cmp own x.name) e in
        count_first name own (x.name ∷ map locked_name locks) ∙ ap (λ (b : Bool). one_if b + count_in name (x.name ∷ map locked_name locks))
        (same_cells own x.name name one)
        ∙ sym (count_first name x.name (x.name ∷ map locked_name locks))
    by Greater e rest =
        omega (
          arith,
          count_first name own (x.name ∷ map locked_name locks),
          count_first name x.name (map locked_name locks),
          count_first name x.name
              (map locked_name (with_one client own locks)),
          rest,
          count_first name own (map locked_name locks),
        )

-- those of a client, and of others
pub count_owned : (name : CellName) (client : ℕ) (locks : List ClientLock) → count_in name (map locked_name locks) ≡ count_in name
    (cells_of client locks ++ map locked_name (of_others client locks))
unfolding cells_of
count_owned name client [] = refl
count_owned name client (lock ∷ locks) = by (lock.client == client) (count_owned name client locks)
  where
    by : (b : Bool) → count_in name (map locked_name locks) ≡ count_in name (cells_of client locks ++ map locked_name (of_others client locks))
        → count_in name (lock.name ∷ map locked_name locks)
        ≡ count_in name ((if b then lock.name ∷ cells_of client locks else cells_of client locks) ++ map locked_name
        (if not b then lock ∷ of_others client locks else of_others client locks))
    by true rest =
        omega (
          arith,
          count_first name lock.name (map locked_name locks),
          count_first name lock.name
              (cells_of client locks ++ map locked_name (of_others client locks)),
          rest,
        )
    by false rest =
        omega (
          arith,
          count_first name lock.name (map locked_name locks),
          count_split name (cells_of client locks) (lock.name ∷ map locked_name (of_others client locks)),
          count_split name (cells_of client locks) (map locked_name (of_others client locks)),
          count_first name lock.name (map locked_name (of_others client locks)),
          rest,
        )

-- one lock fewer
pub count_without : (other : CellName) (client : ℕ) (name : CellName) (locks : List ClientLock) → owns client name locks ≡ true
    → count_in other (map locked_name locks) ≡ count_in other (name ∷ map locked_name (without_one client name locks))
count_without other client name [] is = absurd (true≢false (sym is))
count_without other client name (x ∷ xs) is = by (is_lock_of client name x) refl is (count_without other client name xs)
  where
    by : (b : Bool) → is_lock_of client name x ≡ b → (b || owns client name xs) ≡ true
        → (owns client name xs ≡ true → count_in other (map locked_name xs) ≡ count_in other (name ∷ map locked_name (without_one client name xs)))
        → count_in other (x.name ∷ map locked_name xs) ≡ count_in other (name ∷ map locked_name (if b then xs else x ∷ without_one client name xs))
    by true e now rest =
        let one : is_cell x.name name ≡ true = (and_parts (x.client == client) (is_cell x.name name) e).1 in
        count_first other x.name (map locked_name xs) ∙ ap (λ (b : Bool). one_if b + count_in other (map locked_name xs)) (same_cells x.name name other one)
        ∙ sym (count_first other name (map locked_name xs))
    by false e now rest =
        omega (
          arith,
          count_first other x.name (map locked_name xs),
          rest now,
          count_first other name (map locked_name (without_one client name xs)),
          count_first other name (x.name ∷ map locked_name (without_one client name xs)),
          count_first other x.name (map locked_name (without_one client name xs)),
        )

-- ---- where there is one client alone
own_head : (client : ℕ) (x : ClientLock) (xs : List ClientLock) → of_others client (x ∷ xs) ≡ [] → ((x.client == client) ≡ true) × (of_others client xs ≡ [])
own_head client x xs own = by (x.client == client) refl own
  where
    by : (b : Bool) → (x.client == client) ≡ b → (if not b then x ∷ of_others client xs else of_others client xs) ≡ [] → ((x.client == client) ≡ true)
        × (of_others client xs ≡ [])
    by true e is = (e, is)
    by false e is = absurd cc

own_more : (client : ℕ) (x : ClientLock) (xs : List ClientLock) → (x.client == client) ≡ true → of_others client xs ≡ [] → of_others client (x ∷ xs) ≡ []
own_more client x xs e own = ap (λ (b : Bool). if not b then x ∷ of_others client xs else of_others client xs) e ∙ own

pub count_of_none : (client : ℕ) (name : CellName) (locks : List ClientLock) → of_others client locks ≡ [] → owns client name locks ≡ false
    → count_in name (map locked_name locks) ≡ 0
count_of_none client name [] alone none = count_none name
count_of_none client name (x ∷ xs) alone none =
    by (is_cell x.name name) refl (ap (λ (b : Bool). (b && is_cell x.name name) || owns client name xs) (sym parts.0) ∙ none)
    (count_of_none client name xs parts.1)
  where
    parts : ((x.client == client) ≡ true) × (of_others client xs ≡ [])
    parts = own_head client x xs alone

    by : (b : Bool) → is_cell x.name name ≡ b → (is_cell x.name name || owns client name xs) ≡ false
        → (owns client name xs ≡ false → count_in name (map locked_name xs) ≡ 0) → count_in name (x.name ∷ map locked_name xs) ≡ 0
    by true e now rest = absurd (true≢false (ap (λ (c : Bool). c || owns client name xs) (sym e) ∙ now))
    by false e now rest =
        omega (arith, count_first name x.name (map locked_name xs), ap one_if e, rest (ap (λ (c : Bool). c || owns client name xs) (sym e) ∙ now))

pub own_one_more : (client : ℕ) (name : CellName) (locks : List ClientLock) → of_others client locks ≡ [] → of_others client (with_one client name locks) ≡ []
own_one_more client name [] own = own_more client (record { client = client; name = name }) [] (eq-eqb client client refl) refl
own_one_more client name (x ∷ xs) own = let parts = own_head client x xs own in by (lock_cmp new x) parts (own_one_more client name xs parts.1)
  where
    new : ClientLock
    new = record { client = client; name = name }

    by : (o : Ordering) → ((x.client == client) ≡ true) × (of_others client xs ≡ []) → of_others client (with_one client name xs) ≡ []
        → of_others client (match_ordering o (new ∷ x ∷ xs) (x ∷ x ∷ xs) (x ∷ with_one client name xs)) ≡ []
    by Less parts rest = own_more client new (x ∷ xs) (eq-eqb client client refl) own
    by Equal parts rest = own_more client x (x ∷ xs) parts.0 own
    by Greater parts rest = own_more client x (with_one client name xs) parts.0 rest

own_dropped : (p : ClientLock → Bool) (client : ℕ) (locks : List ClientLock) → of_others client locks ≡ [] → of_others client (without_first p locks) ≡ []
own_dropped p client [] own = refl
own_dropped p client (x ∷ xs) own = let parts = own_head client x xs own in
    by (p x) parts.1 (own_more client x (without_first p xs) parts.0 (own_dropped p client xs parts.1))
  where
    by : (b : Bool) → of_others client xs ≡ [] → of_others client (x ∷ without_first p xs) ≡ []
        → of_others client (if b then xs else x ∷ without_first p xs) ≡ []
    by true one two = one
    by false one two = two

pub own_without : (client : ℕ) (name : CellName) (locks : List ClientLock) → of_others client locks ≡ [] → of_others client (without_one client name locks) ≡ []
own_without client name locks own = own_dropped (is_lock_of client name) client locks own
