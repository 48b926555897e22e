-- An event does with what an image holds of a table what it does with the table.
use Rattle.std.proofs.Common.{◌≡◌, ℕ, ◌+◌, ◌==◌, ◌&&◌, nat_lt, nat_le, Bool, true, false, cond, List, [], ◌∷◌, map, Option, Some, None}
use Rattle.std.proofs.Common.{Result, Ok, Err, IfOk, refl, sym, ap, ◌∙◌}
use Rattle.std.specs.Map.{remove_entry, set_value}
use Rattle.std.specs.BTreeMap.{insert_entry, is_at}
use Rattle.std.specs.Option.{option_map}
use Rattle.std.specs.Ordering.{match_ordering, nat_cmp}
use Rattle.std.specs.Prelude.{if◌then◌else◌, ℤ}
use Rattle.std.specs.declared.cmp.Ordering.{Ordering}
use Rattle.std.specs.declared.cmp.Ordering.TheVariants.{Less, Equal, Greater}
use Rattle.std.proofs.lemmas.Map.Made.{lookup-map_values}
use Rattle.oa_model.specs.promise.Limits.{greatest_object_number, max_cells}
use Rattle.oa_model.specs.declared.bound.Bound.{Bound}
use Rattle.oa_array.specs.promise.Arrays.{redimensioned, with_cell, with_first, with_locks}
use Rattle.oa_array.specs.promise.Boxes.{box_size}
use Rattle.oa_array.specs.promise.Within.{in_bounds}
use Rattle.oa_array.specs.declared.fault.ArrayFault.TheVariants as arrays
use Rattle.oa_variant.specs.promise.Scalars.{fits_type, zero_of}
use Rattle.oa_variant.specs.promise.Variants.{unlocked}
use Rattle.oa_variant.specs.declared.scalar.Scalar.{Scalar}
use Rattle.oa_variant.specs.declared.variant.Variant.{Variant}
use Rattle.oa_variant.specs.declared.variant.Variant.TheVariants.{One, Array as AnArray}
use Rattle.oa_table.specs.declared.event.Event.{Event}
use Rattle.oa_table.specs.declared.event.Event.TheVariants.{Create, Release, Put, PutElement, Redim}
use Rattle.oa_table.specs.declared.fault.TableFault.{TableFault}
use Rattle.oa_table.specs.declared.fault.TableFault.TheVariants.{Array, WrongNumber}
use Rattle.oa_table.specs.promise.Elements.{with_element_put, locks_in, locks_of, redimensioned_value}
use Rattle.oa_table.specs.Events.{BringsNoLocks}
use Rattle.oa_table.specs.promise.Events.{applied, changed_if_live, on_object, released_if_live, with_object}
use Rattle.oa_table.specs.promise.Objects.{any_locked, changed_if_put, with_change, with_put, with_value}
use Rattle.oa_table.specs.promise.Outcomes.{mapped}
use Rattle.oa_table.specs.promise.Places.{PlaceValue, place_cmp}
use Rattle.oa_table.specs.promise.Tables.{ObjectValue, TableValue, cell_at, object_at, unlocked_cell, unlocked_entry}
use Rattle.oa_table.specs.promise.Tables.{unlocked_object, unlocked_table}

module _ {K X : Type 0} (g : X → X) where
  abbrev at_values : List (K × X) → List (K × X)
  at_values es = map (λ e. (e.0, g e.1)) es

  insert_mapped : (cmp : K → K → Ordering) (es : List (K × X)) (k : K) (v : X) → insert_entry cmp (at_values es) k (g v) ≡ at_values (insert_entry cmp es k v)
  insert_mapped cmp [] k v = refl
  insert_mapped cmp (e ∷ es) k v = by (cmp k e.0) (insert_mapped cmp es k v)
    where
      by : (o : Ordering) → insert_entry cmp (at_values es) k (g v) ≡ at_values (insert_entry cmp es k v)
          → match_ordering o ((k, g v) ∷ (e.0, g e.1) ∷ at_values es) ((e.0, g v) ∷ at_values es) ((e.0, g e.1) ∷ insert_entry cmp (at_values es) k (g v))
          ≡ at_values (match_ordering o ((k, v) ∷ e ∷ es) ((e.0, v) ∷ es) (e ∷ insert_entry cmp es k v))
      by Less h = refl
      by Equal h = refl
      by Greater h = ap (λ tail. (e.0, g e.1) ∷ tail) h

  set_mapped : (test : K → Bool) (es : List (K × X)) (v : X) → set_value test (at_values es) (g v) ≡ at_values (set_value test es v)
  set_mapped test [] v = refl
  set_mapped test (e ∷ es) v = by (test e.0) (set_mapped test es v)
    where
      by : (b : Bool) → set_value test (at_values es) (g v) ≡ at_values (set_value test es v)
          → cond b ((e.0, g v) ∷ at_values es) ((e.0, g e.1) ∷ set_value test (at_values es) (g v)) ≡ at_values
          (cond b ((e.0, v) ∷ es) (e ∷ set_value test es v))
      by true h = refl
      by false h = ap (λ tail. (e.0, g e.1) ∷ tail) h

  remove_mapped : (test : K → Bool) (es : List (K × X)) → remove_entry test (at_values es) ≡ at_values (remove_entry test es)
  remove_mapped test [] = refl
  remove_mapped test (e ∷ es) = by (test e.0) (remove_mapped test es)
    where
      by : (b : Bool) → remove_entry test (at_values es) ≡ at_values (remove_entry test es)
          → cond b (at_values es) ((e.0, g e.1) ∷ remove_entry test (at_values es)) ≡ at_values (cond b es (e ∷ remove_entry test es))
      by true h = refl
      by false h = ap (λ tail. (e.0, g e.1) ∷ tail) h

-- where a change applies, it applies to what is seen through g, and the new value is seen through it
abbrev Follows : {A : Type 0} → (A → A) → (A → Result A TableFault) → A → Type 0
Follows g change x = IfOk (change x) (λ new. change (g x) ≡ Ok (g new))

element_follows : (index : List ℤ) (element : Scalar) (value : Variant) → Follows unlocked (with_element_put index element) value
element_follows index element (One s) = tt
element_follows index element (AnArray a) = by (in_bounds a.bounds index) (fits_type element a.elem)
  where
    by : (b c : Bool)
        → IfOk (if b then (if c then Ok (AnArray (with_cell a index element)) else Err (Array arrays.TypeMismatch)) else Err (Array arrays.BadIndex))
        (λ new. (if b then (if c then Ok (AnArray (with_cell (with_locks a 0) index element)) else Err (Array arrays.TypeMismatch)) else Err
        (Array arrays.BadIndex)) ≡ Ok (unlocked new))
    by true true = refl
    by true false = tt
    by false c = tt

redim_follows : (bound : Bound) (value : Variant) → Follows unlocked (redimensioned_value bound) value
redim_follows bound (One s) = tt
redim_follows bound (AnArray a) = by (nat_lt 0 a.locks) (nat_lt max_cells (box_size (with_first bound a.bounds)))
  where
    by : (b c : Bool)
        → IfOk (if b then Err (Array arrays.IsLocked) else if c then Err (Array arrays.InvalidArgument) else Ok
        (AnArray (redimensioned (zero_of a.elem) bound a)))
        (λ new. (if c then Err (Array arrays.InvalidArgument) else Ok (AnArray (redimensioned (zero_of a.elem) bound (with_locks a 0)))) ≡ Ok (unlocked new))
    by true c = tt
    by false true = tt
    by false false = refl

no_locks : (o : Option Variant) → locks_in (option_map unlocked o) ≡ 0
no_locks None = refl
no_locks (Some (One s)) = refl
no_locks (Some (AnArray a)) = refl

unlocked_stays : (value : Variant) → locks_of value ≡ 0 → unlocked value ≡ value
unlocked_stays (One s) h = refl
unlocked_stays (AnArray a) h = ap (λ n. AnArray (with_locks a n)) (sym h)

module _ (place : PlaceValue) (object : ObjectValue) where
  abbrev of_cells : List (PlaceValue × Variant) → Result ObjectValue TableFault
  of_cells cells = Ok (record { class = object.class; cells = cells })

  seen : cell_at place (map unlocked_cell object.cells) ≡ option_map unlocked (cell_at place object.cells)
  seen = lookup-map_values unlocked (is_at (place_cmp place)) object.cells

  change_follows : (change : Variant → Result Variant TableFault) → ((value : Variant) → Follows unlocked change value)
      → Follows unlocked_object (with_change place change) object
  change_follows change each = rw seen (by (cell_at place object.cells))
    where
      on : (value : Variant) (due : Result Variant TableFault) → IfOk due (λ new. change (unlocked value) ≡ Ok (unlocked new))
          → IfOk (mapped (with_value place object) due)
          (λ new. mapped (with_value place (unlocked_object object)) (change (unlocked value)) ≡ Ok (unlocked_object new))
      on value (Ok new) h = rw h (ap of_cells (set_mapped unlocked (is_at (place_cmp place)) object.cells new))
      on value (Err fault) h = tt

      by : (o : Option Variant)
          → IfOk (changed_if_put place change object o)
          (λ new. changed_if_put place change (unlocked_object object) (option_map unlocked o) ≡ Ok (unlocked_object new))
      by None = tt
      by (Some value) = on value (change value) (each value)

  put_follows : (value : Variant) → locks_of value ≡ 0 → Follows unlocked_object (with_put place value) object
  put_follows value none = rw (seen, no_locks (cell_at place object.cells)) (by (locks_in (cell_at place object.cells) == 0))
    where
      cells_are : insert_entry place_cmp (map unlocked_cell object.cells) place value ≡ map unlocked_cell (insert_entry place_cmp object.cells place value)
      cells_are = ap (λ v. insert_entry place_cmp (map unlocked_cell object.cells) place v) (sym (unlocked_stays value none))
          ∙ insert_mapped unlocked place_cmp object.cells place value

      by : (b : Bool) → IfOk (if b then of_cells (insert_entry place_cmp object.cells place value) else Err (Array arrays.IsLocked))
          (λ new. of_cells (insert_entry place_cmp (map unlocked_cell object.cells) place value) ≡ Ok (unlocked_object new))
      by true = ap of_cells cells_are
      by false = tt

none_locked : (cells : List (PlaceValue × Variant)) → any_locked (map unlocked_cell cells) ≡ false
none_locked [] = refl
none_locked ((place, One s) ∷ cells) = none_locked cells
none_locked ((place, AnArray a) ∷ cells) = none_locked cells

module _ (number : ℕ) (table : TableValue) where
  abbrev of_objects : List (ℕ × ObjectValue) → Result TableValue TableFault
  of_objects objects = Ok (record { next = table.next; objects = objects })

  found : object_at number (unlocked_table table) ≡ option_map unlocked_object (object_at number table)
  found = lookup-map_values unlocked_object (is_at (nat_cmp number)) table.objects

  object_follows : (change : ObjectValue → Result ObjectValue TableFault) → ((object : ObjectValue) → Follows unlocked_object change object)
      → Follows unlocked_table (on_object number change) table
  object_follows change each = rw found (by (object_at number table))
    where
      on : (object : ObjectValue) (due : Result ObjectValue TableFault) → IfOk due (λ new. change (unlocked_object object) ≡ Ok (unlocked_object new))
          → IfOk (mapped (with_object number table) due)
          (λ new. mapped (with_object number (unlocked_table table)) (change (unlocked_object object)) ≡ Ok (unlocked_table new))
      on object (Ok new) h = rw h (ap of_objects (set_mapped unlocked_object (is_at (nat_cmp number)) table.objects new))
      on object (Err fault) h = tt

      by : (o : Option ObjectValue)
          → IfOk (changed_if_live number change table o)
          (λ new. changed_if_live number change (unlocked_table table) (option_map unlocked_object o) ≡ Ok (unlocked_table new))
      by None = tt
      by (Some object) = on object (change object) (each object)

  create_follows : (class : List ℕ) → Follows unlocked_table (applied (Create number class)) table
  create_follows class = by ((number == table.next) && nat_le number greatest_object_number)
    where
      by : (b : Bool)
          → IfOk (if b then Ok (record { next = number + 1; objects = insert_entry nat_cmp table.objects number (record { class = class; cells = [] }) }) else
          Err WrongNumber)
          (λ new.
          (if b then Ok (record {
            next = number + 1;
            objects = insert_entry nat_cmp (map unlocked_entry table.objects) number
                (record { class = class; cells = [] });
          }) else Err WrongNumber) ≡ Ok (unlocked_table new))
      by true = ap (λ objects. Ok (record { next = number + 1; objects = objects }))
          (insert_mapped unlocked_object nat_cmp table.objects number (record { class = class; cells = [] }))
      by false = tt

  release_follows : Follows unlocked_table (applied (Release number)) table
  release_follows = rw found (by (object_at number table))
    where
      on : (b : Bool) → IfOk (if b then Err (Array arrays.IsLocked) else of_objects (remove_entry (is_at (nat_cmp number)) table.objects))
          (λ new. of_objects (remove_entry (is_at (nat_cmp number)) (map unlocked_entry table.objects)) ≡ Ok (unlocked_table new))
      on true = tt
      on false = ap of_objects (remove_mapped unlocked_object (is_at (nat_cmp number)) table.objects)

      by : (o : Option ObjectValue)
          → IfOk (released_if_live number table o)
          (λ new. released_if_live number (unlocked_table table) (option_map unlocked_object o) ≡ Ok (unlocked_table new))
      by None = tt
      by (Some object) = rw (none_locked object.cells) (on (any_locked object.cells))

pub event_follows : (event : Event) (table : TableValue) → BringsNoLocks event → Follows unlocked_table (applied event) table
event_follows (Create number class) table h = create_follows number table class
event_follows (Release number) table h = release_follows number table
event_follows (Put name value) table h = object_follows name.object table (with_put name.place value) (λ object. put_follows name.place object value h)
event_follows (PutElement name index value) table h = object_follows name.object table (with_change name.place (with_element_put index value))
    (λ object. change_follows name.place object (with_element_put index value) (element_follows index value))
event_follows (Redim name bound) table h = object_follows name.object table (with_change name.place (redimensioned_value bound))
    (λ object. change_follows name.place object (redimensioned_value bound) (redim_follows bound))
