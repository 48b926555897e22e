-- A table that a library can have stays so by events that bring what fits, and by changes of locks.
use Rattle.std.proofs.Common.{◌≡◌, ℕ, ℤ, ◌+◌, ◌-◌, ◌==◌, ◌&&◌, nat_lt, List, [], ◌∷◌, map, Bool, true, false, cond, is_some, Option, Some}
use Rattle.std.proofs.Common.{None, Result, Ok, Err, IfOk, refl, sym, ap, subst, ◌∙◌}
use Rattle.std.proofs.lemmas.Bool.{and_from, and_parts}
use Rattle.std.proofs.lemmas.Map.Lookups.{CmpEqualImpliesEq, exact_unsigned}
use Rattle.std.proofs.lemmas.Option.{none-some}
use Rattle.std.specs.BTreeMap.{insert_entry, is_at}
use Rattle.std.specs.List.{list_all}
use Rattle.std.specs.Map.{lookup, remove_entry, set_value}
use Rattle.std.specs.Ordering.{match_ordering, nat_cmp}
use Rattle.std.specs.Prelude.{if◌then◌else◌}
use Rattle.std.specs.declared.cmp.Ordering.{Ordering}
use Rattle.std.specs.declared.cmp.Ordering.TheVariants.{Less, Equal, Greater}
use Rattle.oa_model.specs.promise.Limits.{max_cell_locks, max_cells}
use Rattle.oa_array.specs.promise.Arrays.{ArrayValue, redimensioned, with_cell, with_first, with_locks}
use Rattle.oa_array.specs.promise.Boxes.{box_size}
use Rattle.oa_array.specs.promise.Within.{in_bounds}
use Rattle.oa_array.specs.declared.fault.ArrayFault.TheVariants as arrays
use Rattle.oa_idl.specs.promise.Trees.{TreeValue}
use Rattle.oa_model.specs.declared.bound.Bound.{Bound}
use Rattle.oa_model.specs.declared.var_type.ValueType.{ValueType}
use Rattle.oa_model.specs.declared.var_type.ValueType.TheVariants as kinds
use Rattle.oa_table.specs.declared.event.Event.{Event}
use Rattle.oa_table.specs.declared.event.Event.TheVariants.{Create, Release, Put, PutElement, Redim}
use Rattle.oa_table.specs.declared.fault.TableFault.{TableFault}
use Rattle.oa_table.specs.declared.fault.TableFault.TheVariants.{Array, WrongNumber}
use Rattle.oa_table.specs.declared.name.CellName.{CellName}
use Rattle.oa_table.specs.promise.Elements.{with_element_put, locked_value, redimensioned_value, released_value}
use Rattle.oa_table.specs.promise.Events.{applied, changed_if_live, on_object, released_if_live, with_object}
use Rattle.oa_table.specs.promise.Locks.{with_lock, without_lock}
use Rattle.oa_table.specs.promise.Objects.{any_locked, changed_if_put, locks_of_cell, with_change, with_put, with_value}
use Rattle.oa_table.specs.promise.Outcomes.{mapped}
use Rattle.oa_table.specs.promise.Places.{PlaceValue, place_cmp}
use Rattle.oa_table.specs.promise.Tables.{ObjectValue, TableValue, cell_at, object_at, unlocked_cell, unlocked_entry}
use Rattle.oa_table.specs.promise.Tables.{unlocked_table}
use Rattle.oa_sema.specs.promise.Libraries.{class_of}
use Rattle.oa_typelib.specs.promise.MemberValues.{MemberValue}
use Rattle.oa_typelib.specs.promise.Members.{property_in}
use Rattle.oa_idl.specs.promise.Values.{InterfaceValue}
use Rattle.oa_variant.specs.promise.Keys.{scalar_cmp}
use Rattle.oa_variant.specs.promise.Scalars.{fits_type, same_type, zero_of}
use Rattle.oa_variant.specs.promise.Variants.{fits_declared, unlocked}
use Rattle.oa_variant.specs.declared.scalar.Scalar.{Scalar}
use Rattle.oa_variant.specs.declared.variant.Variant.{Variant}
use Rattle.oa_variant.specs.declared.variant.Variant.TheVariants.{One, Array as AnArray}
use Rattle.oa_compat.specs.Brings.{brings_fitting, put_fits}
use Rattle.oa_compat.specs.promise.Fits.{cell_fits, entered, fits, interface_fits, key_fits, object_fits, property_fits}
use Rattle.oa_compat.proofs.Places.{exact_places}

-- ---- what holds of all entries, where one is set, added or taken out
module _ {K X : Type 0} (p : K × X → Bool) where
  set_all : (test : K → Bool) (es : List (K × X)) (v w : X) → lookup test es ≡ Some v → ((k : K) → p (k, v) ≡ true → p (k, w) ≡ true)
      → list_all p es ≡ true → list_all p (set_value test es w) ≡ true
  set_all test [] v w h keeps all = refl
  set_all test (e ∷ es) v w h keeps all = by (test e.0) h (set_all test es v w)
    where
      parts : (p e ≡ true) × (list_all p es ≡ true)
      parts = and_parts (p e) (list_all p es) all

      by : (b : Bool) → cond b (Some e.1) (lookup test es) ≡ Some v
          → (lookup test es ≡ Some v → ((k : K) → p (k, v) ≡ true → p (k, w) ≡ true) → list_all p es ≡ true
          → list_all p (set_value test es w) ≡ true)
          → list_all p (cond b ((e.0, w) ∷ es) (e ∷ set_value test es w)) ≡ true
      by true is rest = let same : e.1 ≡ v = cc in and_from (p (e.0, w)) (list_all p es) (keeps e.0 (subst (λ x. p (e.0, x) ≡ true) same parts.0)) parts.1
      by false is rest = and_from (p e) (list_all p (set_value test es w)) parts.0 (rest is keeps parts.1)

  insert_all : (cmp : K → K → Ordering) → CmpEqualImpliesEq cmp → (es : List (K × X)) (k : K) (v : X) → p (k, v) ≡ true
      → list_all p es ≡ true → list_all p (insert_entry cmp es k v) ≡ true
  insert_all cmp exact [] k v here all = and_from (p (k, v)) true here refl
  insert_all cmp exact (e ∷ es) k v here all = by (cmp k e.0) refl (insert_all cmp exact es k v here parts.1)
    where
      parts : (p e ≡ true) × (list_all p es ≡ true)
      parts = and_parts (p e) (list_all p es) all

      by : (o : Ordering) → cmp k e.0 ≡ o → list_all p (insert_entry cmp es k v) ≡ true
          → list_all p (match_ordering o ((k, v) ∷ e ∷ es) ((e.0, v) ∷ es) (e ∷ insert_entry cmp es k v)) ≡ true
      by Less is rest = and_from (p (k, v)) (list_all p (e ∷ es)) here all
      by Equal is rest = and_from (p (e.0, v)) (list_all p es) (subst (λ q. p (q, v) ≡ true) (exact k e.0 is) here) parts.1
      by Greater is rest = and_from (p e) (list_all p (insert_entry cmp es k v)) parts.0 rest

  remove_all : (test : K → Bool) (es : List (K × X)) → list_all p es ≡ true → list_all p (remove_entry test es) ≡ true
  remove_all test [] all = refl
  remove_all test (e ∷ es) all = by (test e.0) (remove_all test es parts.1)
    where
      parts : (p e ≡ true) × (list_all p es ≡ true)
      parts = and_parts (p e) (list_all p es) all

      by : (b : Bool) → list_all p (remove_entry test es) ≡ true → list_all p (cond b es (e ∷ remove_entry test es)) ≡ true
      by true rest = parts.1
      by false rest = and_from (p e) (list_all p (remove_entry test es)) parts.0 rest

-- what holds of all values holds of the one that is found
found_passes : {K X : Type 0} (q : X → Bool) (test : K → Bool) (es : List (K × X)) (v : X) → lookup test es ≡ Some v
    → list_all (λ (e : K × X). q e.1) es ≡ true → q v ≡ true
found_passes q test [] v h all = absurd (none-some v h)
found_passes {K} {X} q test (e ∷ es) v h all = by (test e.0) h (found_passes q test es v)
  where
    parts : (q e.1 ≡ true) × (list_all (λ (e : K × X). q e.1) es ≡ true)
    parts = and_parts (q e.1) (list_all (λ (e : K × X). q e.1) es) all

    by : (b : Bool) → cond b (Some e.1) (lookup test es) ≡ Some v
        → (lookup test es ≡ Some v → list_all (λ (e : K × X). q e.1) es ≡ true → q v ≡ true) → q v ≡ true
    by true is rest = let same : e.1 ≡ v = cc in subst (λ x. q x ≡ true) same parts.0
    by false is rest = rest is parts.1

-- ---- changes of a value that leave its type
abbrev Alike : Variant → Variant → Type 0
Alike v w = (t : ValueType) → fits_declared v t ≡ fits_declared w t

abbrev LeavesType : (Variant → Result Variant TableFault) → Type 0
LeavesType change = (value : Variant) → IfOk (change value) (Alike value)

one_type : (a b : ArrayValue Scalar) → a.elem ≡ b.elem → Alike (AnArray a) (AnArray b)
one_type a b e (kinds.One t) = refl
one_type a b e (kinds.Array t) = ap (λ x. same_type x t) e

element_leaves : (index : List ℤ) (element : Scalar) → LeavesType (with_element_put index element)
element_leaves index element (One s) = tt
element_leaves index element (AnArray a) = by (in_bounds a.bounds index) (fits_type element a.elem)
  where
    by : (b c : Bool)
        → IfOk (if b then (if c then Ok (AnArray (with_cell a index element)) else Err (Array arrays.TypeMismatch)) else Err (Array arrays.BadIndex))
        (Alike (AnArray a))
    by true true = one_type a (with_cell a index element) refl
    by true false = tt
    by false c = tt

pub redim_leaves : (bound : Bound) → LeavesType (redimensioned_value bound)
redim_leaves bound (One s) = tt
redim_leaves bound (AnArray a) = by (nat_lt 0 a.locks) (nat_lt max_cells (box_size (with_first bound a.bounds)))
  where
    by : (b c : Bool)
        → IfOk (if b then Err (Array arrays.IsLocked) else if c then Err (Array arrays.InvalidArgument) else Ok
        (AnArray (redimensioned (zero_of a.elem) bound a))) (Alike (AnArray a))
    by true c = tt
    by false true = tt
    by false false = one_type a (redimensioned (zero_of a.elem) bound a) refl

lock_leaves : LeavesType locked_value
lock_leaves (One s) = tt
lock_leaves (AnArray a) = by (a.locks == max_cell_locks)
  where
    by : (b : Bool) → IfOk (if b then Err (Array arrays.Unexpected) else Ok (AnArray (with_locks a (a.locks + 1)))) (Alike (AnArray a))
    by true = tt
    by false = one_type a (with_locks a (a.locks + 1)) refl

unlock_leaves : LeavesType released_value
unlock_leaves (One s) = tt
unlock_leaves (AnArray a) = by (a.locks == 0)
  where
    by : (b : Bool) → IfOk (if b then Err (Array arrays.Unexpected) else Ok (AnArray (with_locks a (a.locks - 1)))) (Alike (AnArray a))
    by true = tt
    by false = one_type a (with_locks a (a.locks - 1)) refl

pub unlocked_alike : (value : Variant) → Alike value (unlocked value)
unlocked_alike (One s) t = refl
unlocked_alike (AnArray a) (kinds.One t) = refl
unlocked_alike (AnArray a) (kinds.Array t) = refl

-- ---- a cell with another value of its type
module _ (library : TreeValue) where
  property_alike : (v w : Variant) (key : List Scalar) → Alike v w → (o : Option MemberValue)
      → property_fits key v o ≡ property_fits key w o
  property_alike v w key alike None = refl
  property_alike v w key alike (Some member) = ap (λ b. key_fits member.parameters key && b) (alike member.value_type)

  interface_alike : (v w : Variant) (place : PlaceValue) → Alike v w → (o : Option InterfaceValue)
      → interface_fits place v o ≡ interface_fits place w o
  interface_alike v w place alike None = refl
  interface_alike v w place alike (Some i) = property_alike v w place.key alike (property_in i place.dispid)

  pub cell_alike : (v w : Variant) (class : List ℕ) (place : PlaceValue) → Alike v w
      → cell_fits library class (place, v) ≡ cell_fits library class (place, w)
  cell_alike v w class place alike = interface_alike v w place alike (entered library class place.interface)

  -- ---- an object
  object_parts : (object : ObjectValue) → object_fits library object ≡ true
      → (is_some (class_of library object.class) ≡ true) × (list_all (cell_fits library object.class) object.cells ≡ true)
  object_parts object h = and_parts (is_some (class_of library object.class)) (list_all (cell_fits library object.class) object.cells) h

  object_from : (class : List ℕ) (cells : List (PlaceValue × Variant)) → is_some (class_of library class) ≡ true
      → list_all (cell_fits library class) cells ≡ true → object_fits library (record { class = class; cells = cells }) ≡ true
  object_from class cells known all = and_from (is_some (class_of library class)) (list_all (cell_fits library class) cells) known all

  abbrev Fitting : ObjectValue → Type 0
  Fitting object = object_fits library object ≡ true

  change_kept : (place : PlaceValue) (change : Variant → Result Variant TableFault) → LeavesType change → (object : ObjectValue)
      → Fitting object → IfOk (with_change place change object) Fitting
  change_kept place change leaves object fit = by (cell_at place object.cells) refl
    where
      on : (value : Variant) (due : Result Variant TableFault) → cell_at place object.cells ≡ Some value → IfOk due (Alike value)
          → IfOk (mapped (with_value place object) due) Fitting
      on value (Ok new) is alike =
          let parts = object_parts object fit in
          object_from object.class (set_value (is_at (place_cmp place)) object.cells new) parts.0
          (set_all (cell_fits library object.class) (is_at (place_cmp place)) object.cells value new is
          (λ k h. sym (cell_alike value new object.class k alike) ∙ h) parts.1)
      on value (Err fault) is alike = tt

      by : (o : Option Variant) → cell_at place object.cells ≡ o → IfOk (changed_if_put place change object o) Fitting
      by None is = tt
      by (Some value) is = on value (change value) is (leaves value)

  put_kept : (place : PlaceValue) (value : Variant) (object : ObjectValue) → CmpEqualImpliesEq scalar_cmp
      → cell_fits library object.class (place, value) ≡ true → Fitting object → IfOk (with_put place value object) Fitting
  put_kept place value object exact new fit = by (locks_of_cell place object == 0)
    where
      by : (b : Bool) → IfOk (if b then Ok (record object {
        cells =
            insert_entry place_cmp object.cells place value;
      }) else Err (Array arrays.IsLocked)) Fitting
      by true =
          let parts = object_parts object fit in
          object_from object.class (insert_entry place_cmp object.cells place value) parts.0
          (insert_all (cell_fits library object.class) place_cmp (exact_places exact) object.cells place value new parts.1)
      by false = tt

  -- ---- the table
  abbrev Fits : TableValue → Type 0
  Fits table = fits library table ≡ true

  abbrev entry_fits : ℕ × ObjectValue → Bool
  entry_fits entry = object_fits library entry.1

  on_kept : (number : ℕ) (table : TableValue) (change : ObjectValue → Result ObjectValue TableFault)
      → ((object : ObjectValue) → object_at number table ≡ Some object → Fitting object → IfOk (change object) Fitting) → Fits table
      → IfOk (on_object number change table) Fits
  on_kept number table change each fit = by (object_at number table) refl
    where
      on : (object : ObjectValue) (due : Result ObjectValue TableFault) → object_at number table ≡ Some object → IfOk due Fitting
          → IfOk (mapped (with_object number table) due) Fits
      on object (Ok new) is h = set_all entry_fits (is_at (nat_cmp number)) table.objects object new is (λ k was. h) fit
      on object (Err fault) is h = tt

      by : (o : Option ObjectValue) → object_at number table ≡ o → IfOk (changed_if_live number change table o) Fits
      by None is = tt
      by (Some object) is =
          on object (change object) is (each object is (found_passes (object_fits library) (is_at (nat_cmp number)) table.objects object is fit))

  cell_kept : (name : CellName) (table : TableValue) (change : Variant → Result Variant TableFault) → LeavesType change → Fits table
      → IfOk (on_object name.object (with_change name.place change) table) Fits
  cell_kept name table change leaves = on_kept name.object table (with_change name.place change) (λ object is. change_kept name.place change leaves object)

  create_kept : (table : TableValue) (number : ℕ) (class : List ℕ) → is_some (class_of library class) ≡ true → Fits table
      → IfOk (applied (Create number class) table) Fits
  create_kept table number class known fit = by _
    where
      by : (b : Bool) → IfOk (if b then Ok (record {
        next = number + 1;
        objects =
            insert_entry nat_cmp table.objects number (record { class = class; cells = [] });
      }) else Err WrongNumber) Fits
      by true = insert_all entry_fits nat_cmp exact_unsigned table.objects number (record { class = class; cells = [] }) (object_from class [] known refl) fit
      by false = tt

  release_kept : (table : TableValue) (number : ℕ) → Fits table → IfOk (applied (Release number) table) Fits
  release_kept table number fit = by (object_at number table)
    where
      on : (b : Bool) → IfOk (if b then Err (Array arrays.IsLocked) else Ok (record table {
        objects =
            remove_entry (is_at (nat_cmp number)) table.objects;
      })) Fits
      on true = tt
      on false = remove_all entry_fits (is_at (nat_cmp number)) table.objects fit

      by : (o : Option ObjectValue) → IfOk (released_if_live number table o) Fits
      by None = tt
      by (Some object) = on (any_locked object.cells)

  put_here : (place : PlaceValue) (value : Variant) (o : Option ObjectValue) (object : ObjectValue) → put_fits library place value o ≡ true
      → o ≡ Some object → cell_fits library object.class (place, value) ≡ true
  put_here place value None object h is = absurd (none-some object is)
  put_here place value (Some other) object h is = let same : other ≡ object = cc in
      subst (λ (x : ObjectValue). cell_fits library x.class (place, value) ≡ true) same h

  pub event_kept : CmpEqualImpliesEq scalar_cmp → (table : TableValue) (event : Event) → Fits table
      → brings_fitting library table event ≡ true → IfOk (applied event table) Fits
  event_kept exact table (Create number class) fit brings = create_kept table number class brings fit
  event_kept exact table (Release number) fit brings = release_kept table number fit
  event_kept exact table (Put name value) fit brings =
      on_kept name.object table (with_put name.place value)
      (λ object is. put_kept name.place value object exact (put_here name.place value (object_at name.object table) object brings is)) fit
  event_kept exact table (PutElement name index value) fit brings = cell_kept name table (with_element_put index value) (element_leaves index value) fit
  event_kept exact table (Redim name bound) fit brings = cell_kept name table (redimensioned_value bound) (redim_leaves bound) fit

  pub lock_kept : (table : TableValue) (name : CellName) → Fits table → IfOk (with_lock name table) Fits
  lock_kept table name = cell_kept name table locked_value lock_leaves

  pub unlock_kept : (table : TableValue) (name : CellName) → Fits table → IfOk (without_lock name table) Fits
  unlock_kept table name = cell_kept name table released_value unlock_leaves

  -- ---- without locks
  cells_unlocked : (class : List ℕ) (cells : List (PlaceValue × Variant))
      → list_all (cell_fits library class) (map unlocked_cell cells) ≡ list_all (cell_fits library class) cells
  cells_unlocked class [] = refl
  cells_unlocked class (cell ∷ cells) =
      let here : cell_fits library class (unlocked_cell cell) ≡ cell_fits library class cell =
      sym (cell_alike cell.1 (unlocked cell.1) class cell.0 (unlocked_alike cell.1)) in
      let rest = cells_unlocked class cells in
      λ i. here i && rest i

  objects_unlocked : (objects : List (ℕ × ObjectValue)) → list_all entry_fits (map unlocked_entry objects) ≡ list_all entry_fits objects
  objects_unlocked [] = refl
  objects_unlocked (o ∷ os) =
      let here = cells_unlocked o.1.class o.1.cells in
      let rest = objects_unlocked os in
      λ i. (is_some (class_of library o.1.class) && here i) && rest i

  pub unlocked_fits : (table : TableValue) → fits library (unlocked_table table) ≡ fits library table
  unlocked_fits table = objects_unlocked table.objects
