use Rattle.std.proofs.Common.{◌≡◌, ◌+◌, ◌≤◌, ℕ, eqb, Bool, true, false, true≢false, cond, Some, None, Result, Ok, Err, IfOk, IsOk, OnErr, OnOk, refl, sym}
use Rattle.std.proofs.Common.{arith}
use Rattle.std.specs.List.Sorted.{IsStrictlySortedBy}
use Rattle.std.specs.Map.{keys_of}
use Rattle.std.proofs.lemmas.Bool.{eqb-true}
use Rattle.oa_variant.specs.declared.variant.Variant.{Variant}
use Rattle.oa_table.specs.declared.difference.Difference.{Difference}
use Rattle.oa_table.specs.declared.fault.TableFault.{TableFault}
use Rattle.oa_table.specs.promise.Elements.{locks_of}
use Rattle.oa_table.specs.Elements.{replaced_value}
use Rattle.oa_table.specs.promise.Objects.{with_put}
use Rattle.oa_table.specs.promise.Places.{PlaceValue, place_cmp}
use Rattle.oa_table.specs.promise.Sizes.{object_size}
use Rattle.oa_table.specs.Sizes.{size_due}
use Rattle.oa_table.specs.promise.Tables.{ObjectValue, cell_at}
use Rattle.oa_formats.specs.promise.Lengths.{value_size}
use Rattle.oa_table.proofs.Sums.{put_is_change, put_over_due, set_sum}
use Rattle.oa_table.proofs.Through.{back_in_cell, done_in_cell}
use Rattle.oa_table.proofs.live.LiveObject.overwrite.Goals as goal

-- what the value takes and adds, the object takes and adds
sizes : {E : Type 0} (old new value : Variant) (whole_old whole_new : ℕ) (result : Result Difference E)
    → whole_new + value_size old ≡ whole_old + value_size new → OnOk result (new ≡ value)
    → IfOk result (λ d. d.gone ≡ value_size old) → IfOk result (λ d. d.come ≡ value_size value) → IfOk result (λ d. whole_new + d.gone ≡ whole_old + d.come)
sizes old new value whole_old whole_new (Ok d) sum set gone come = omega (arith, rw set at sum, gone, come)
sizes old new value whole_old whole_new (Err back) sum set gone come = tt

within : {E : Type 0} (size longest : ℕ) (result : Result Difference E) → IfOk result (λ d. d.come ≡ size) → IfOk result (λ d. d.come ≤ longest)
    → OnOk result (size ≤ longest)
within size longest (Ok d) is most = rw is at most
within size longest (Err back) is most = tt

-- a value that is not replaced was no value to replace
module _ (place : PlaceValue) (value : Variant) (object : ObjectValue) (old : Variant) (there : cell_at place object.cells ≡ Some old) where
  free : IsOk (with_put place value object) → locks_of old ≡ 0
  free due = by _ _ (eqb (locks_of old) 0) refl (rw there at due)
    where
      by : (new : ObjectValue) (fault : TableFault) (b : Bool) → eqb (locks_of old) 0 ≡ b → IsOk (cond b (Ok new) (Err fault)) → locks_of old ≡ 0
      by new fault true is due = eqb-true (locks_of old) 0 is
      by new fault false is due = absurd (true≢false (sym due))

  refused : {U E : Type 0} (longest size most : ℕ) (result : Result U E) → IsStrictlySortedBy place_cmp (keys_of object.cells)
      → OnErr result (locks_of old ≡ 0 → value_size value ≤ longest → size + value_size value ≤ most + value_size old → ⊥)
      → OnErr result (IsOk (with_put place value object) → value_size value ≤ longest → size + size_due object_size (with_put place value object) object ≤ most
      + object_size object → cell_at place object.cells ≡ None)
  refused longest size most (Ok u) sorted h = tt
  refused longest size most (Err back) sorted h =
      λ due short small. absurd (h (free due) short (omega (arith, small, put_over_due place value object old sorted there (free due))))

pub returns-clause-done : goal.returns-clause-done
returns-clause-done c =
    let there = sym c.in-Some.ensures.value in
    let made = done_in_cell c.args.place.now (replaced_value c.args.value) c.self.inside.class c.self.inside.cells _ c.in-Some.old.now c.replace_within.new.old
    there
    (c.get_mut.follows.holds c.replace_within.new.old) c.replace_within.result c.replace_within.ensures.done in
    let sorted = rw (← c.self.view_is) at c.places_rise.ensures in
    let due = put_is_change c.args.place.now c.args.value (record { class = c.self.inside.class; cells = c.self.inside.cells }) c.in-Some.old.now sorted
    there in
    rw (← c.self.view_is, due) made

pub returns-clause-size : goal.returns-clause-size
returns-clause-size c =
    let sum = set_sum c.args.place.now c.self.inside.class c.self.inside.cells _ c.in-Some.old.now c.replace_within.new.old (sym c.in-Some.ensures.value)
    (c.get_mut.follows.holds c.replace_within.new.old) in
    rw (← c.self.view_is) (sizes _ _ _ _ _ c.replace_within.result sum c.replace_within.ensures.set c.replace_within.ensures.gone c.replace_within.ensures.come)

pub returns-clause-longest : goal.returns-clause-longest
returns-clause-longest c = within _ _ c.replace_within.result c.replace_within.ensures.come c.replace_within.ensures.longest

pub returns-clause-back : goal.returns-clause-back
returns-clause-back c =
    rw (← c.self.view_is) (back_in_cell c.args.place.now (replaced_value c.args.value) c.self.inside.class c.self.inside.cells _ c.in-Some.old.now
    c.replace_within.new.old (sym c.in-Some.ensures.value)
    (c.get_mut.follows.holds c.replace_within.new.old) c.args.value c.replace_within.result c.replace_within.ensures.back)

pub returns-clause-refused : goal.returns-clause-refused
returns-clause-refused c =
    let sorted = rw (← c.self.view_is) at c.places_rise.ensures in
    rw (← c.self.view_is) (refused c.args.place.now c.args.value (record { class = c.self.inside.class; cells = c.self.inside.cells }) c.in-Some.old.now
    (sym c.in-Some.ensures.value) c.args.room.longest c.args.room.size c.args.room.most
    c.replace_within.result sorted c.replace_within.ensures.refused)
