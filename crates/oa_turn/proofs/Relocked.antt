-- Locks are no part of what an image holds.
use Rattle.std.proofs.Common.{◌≡◌, ℕ, ◌+◌, ◌-◌, ◌==◌, Bool, true, false, cond, List, [], ◌∷◌, map, Option, Some, None, Result, Ok, Err}
use Rattle.std.proofs.Common.{refl, sym, ap, ◌∙◌}
use Rattle.std.specs.Prelude.{if◌then◌else◌}
use Rattle.std.specs.BTreeMap.{is_at}
use Rattle.std.specs.Map.{lookup, set_value}
use Rattle.std.specs.Ordering.{nat_cmp}
use Rattle.oa_model.specs.promise.Limits.{max_cell_locks}
use Rattle.oa_array.specs.promise.Arrays.{with_locks}
use Rattle.oa_array.specs.declared.fault.ArrayFault.TheVariants as arrays
use Rattle.oa_variant.specs.promise.Variants.{unlocked}
use Rattle.oa_variant.specs.declared.variant.Variant.{Variant}
use Rattle.oa_variant.specs.declared.variant.Variant.TheVariants.{One, Array as AnArray}
use Rattle.oa_table.specs.declared.fault.TableFault.{TableFault}
use Rattle.oa_table.specs.declared.fault.TableFault.TheVariants.{Array}
use Rattle.oa_table.specs.declared.name.CellName.{CellName}
use Rattle.oa_table.specs.promise.Elements.{locked_value, released_value}
use Rattle.oa_table.specs.promise.Events.{changed_if_live, on_object, with_object}
use Rattle.oa_table.specs.promise.Locks.{with_lock, without_lock}
use Rattle.oa_table.specs.promise.Objects.{changed_if_put, with_change, with_value}
use Rattle.oa_table.specs.promise.Outcomes.{mapped}
use Rattle.oa_table.specs.promise.Places.{PlaceValue, place_cmp}
use Rattle.oa_table.specs.promise.Tables.{ObjectValue, TableValue, cell_at, object_at, unlocked_cell, unlocked_entry}
use Rattle.oa_table.specs.promise.Tables.{unlocked_object, unlocked_table}

-- a change that is not seen through g
abbrev Unseen : {A : Type 0} → (A → A) → (A → Result A TableFault) → A → Type 0
Unseen {A} g change x = (new : A) → change x ≡ Ok new → g new ≡ g x

same_some : {X : Type 0} (x y : X) → Some x ≡ Some y → x ≡ y
same_some x y e = cc

abbrev made : {X : Type 0} → X → Result X TableFault
made x = Ok x

same_ok : {X : Type 0} (x y : X) → made x ≡ made y → x ≡ y
same_ok x y e = cc

abbrev shown : {K X : Type 0} → (X → X) → List (K × X) → List (K × X)
shown g es = map (λ e. (e.0, g e.1)) es

-- a value is set where another stood that g shows as the same
set_unseen : {K X : Type 0} (g : X → X) (test : K → Bool) (es : List (K × X)) (old new : X) → lookup test es ≡ Some old → g new ≡ g old
    → shown g (set_value test es new) ≡ shown g es
set_unseen g test [] old new found same = refl
set_unseen {K} {X} g test (e ∷ es) old new found same = by (test e.0) found (set_unseen g test es old new)
  where
    front : X → K × X
    front x = (e.0, x)

    by : (b : Bool) → cond b (Some e.1) (lookup test es) ≡ Some old → (lookup test es ≡ Some old → g new ≡ g old → shown g (set_value test es new) ≡ shown g es)
        → shown g (cond b (front new ∷ es) (e ∷ set_value test es new)) ≡ front (g e.1) ∷ shown g es
    by true here rest = ap (λ y. front y ∷ shown g es) (same ∙ ap g (sym (same_some e.1 old here)))
    by false there rest = ap (λ tail. front (g e.1) ∷ tail) (rest there same)

lock_unseen : (value : Variant) → Unseen unlocked locked_value value
lock_unseen (One s) new is = absurd cc
lock_unseen (AnArray a) new is = by (a.locks == max_cell_locks) is
  where
    by : (b : Bool) → (if b then Err (Array arrays.Unexpected) else Ok (AnArray (with_locks a (a.locks + 1)))) ≡ Ok new → unlocked new ≡ unlocked (AnArray a)
    by true e = absurd cc
    by false e = ap unlocked (sym (same_ok _ _ e))

unlock_unseen : (value : Variant) → Unseen unlocked released_value value
unlock_unseen (One s) new is = absurd cc
unlock_unseen (AnArray a) new is = by (a.locks == 0) is
  where
    by : (b : Bool) → (if b then Err (Array arrays.Unexpected) else Ok (AnArray (with_locks a (a.locks - 1)))) ≡ Ok new → unlocked new ≡ unlocked (AnArray a)
    by true e = absurd cc
    by false e = ap unlocked (sym (same_ok _ _ e))

module _ (place : PlaceValue) (change : Variant → Result Variant TableFault) (unseen : (value : Variant) → Unseen unlocked change value) where
  object_unseen : (object : ObjectValue) → Unseen unlocked_object (with_change place change) object
  object_unseen object new is = by (cell_at place object.cells) refl is
    where
      on : (value : Variant) → cell_at place object.cells ≡ Some value → (due : Result Variant TableFault) → change value ≡ due
          → mapped (with_value place object) due ≡ Ok new
          → unlocked_object new ≡ unlocked_object object
      on value found (Ok after) makes e =
          ap unlocked_object (sym (same_ok _ _ e))
          ∙ ap (λ cells. record { class = object.class; cells = cells })
          (set_unseen unlocked (is_at (place_cmp place)) object.cells value after found (unseen value after makes))
      on value found (Err fault) makes e = absurd cc

      by : (o : Option Variant) → cell_at place object.cells ≡ o → changed_if_put place change object o ≡ Ok new → unlocked_object new ≡ unlocked_object object
      by None found e = absurd cc
      by (Some value) found e = on value found (change value) refl e

  table_unseen : (number : ℕ) (table : TableValue) → Unseen unlocked_table (on_object number (with_change place change)) table
  table_unseen number table new is = by (object_at number table) refl is
    where
      on : (object : ObjectValue) → object_at number table ≡ Some object → (due : Result ObjectValue TableFault) → with_change place change object ≡ due
          → mapped (with_object number table) due ≡ Ok new
          → unlocked_table new ≡ unlocked_table table
      on object found (Ok after) makes e =
          ap unlocked_table (sym (same_ok _ _ e))
          ∙ ap (λ objects. record { next = table.next; objects = objects })
          (set_unseen unlocked_object (is_at (nat_cmp number)) table.objects object after found (object_unseen object after makes))
      on object found (Err fault) makes e = absurd cc

      by : (o : Option ObjectValue) → object_at number table ≡ o → changed_if_live number (with_change place change) table o ≡ Ok new
          → unlocked_table new ≡ unlocked_table table
      by None found e = absurd cc
      by (Some object) found e = on object found (with_change place change object) refl e

pub lock_stays : (name : CellName) (table : TableValue) → Unseen unlocked_table (with_lock name) table
lock_stays name table = table_unseen name.place locked_value lock_unseen name.object table

pub unlock_stays : (name : CellName) (table : TableValue) → Unseen unlocked_table (without_lock name) table
unlock_stays name table = table_unseen name.place released_value unlock_unseen name.object table

-- what an image holds of what it holds
pub unlocked_twice : (table : TableValue) → unlocked_table (unlocked_table table) ≡ unlocked_table table
unlocked_twice table = ap (λ (objects : List (ℕ × ObjectValue)). record table { objects = objects }) (objects table.objects)
  where
    value : (v : Variant) → unlocked (unlocked v) ≡ unlocked v
    value (One s) = refl
    value (AnArray a) = refl

    cells : (cs : List (PlaceValue × Variant)) → map unlocked_cell (map unlocked_cell cs) ≡ map unlocked_cell cs
    cells [] = refl
    cells (c ∷ cs) = ap (λ (v : Variant). (c.0, v) ∷ map unlocked_cell (map unlocked_cell cs)) (value c.1)
        ∙ ap (λ (l : List (PlaceValue × Variant)). unlocked_cell c ∷ l) (cells cs)

    objects : (os : List (ℕ × ObjectValue)) → map unlocked_entry (map unlocked_entry os) ≡ map unlocked_entry os
    objects [] = refl
    objects (o ∷ os) =
        ap (λ (cs : List (PlaceValue × Variant)). (o.0, record o.1 { cells = cs }) ∷ map unlocked_entry (map unlocked_entry os)) (cells o.1.cells)
        ∙ ap (λ (l : List (ℕ × ObjectValue)). unlocked_entry o ∷ l) (objects os)
