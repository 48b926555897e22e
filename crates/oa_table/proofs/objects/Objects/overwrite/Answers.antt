use Rattle.std.proofs.Common.{◌≡◌, ◌+◌, ◌≤◌, ℕ, Some, None, Result, Ok, Err, IfOk, IsOk, OnErr, arith, sym}
use Rattle.oa_formats.specs.promise.Lengths.{value_size}
use Rattle.oa_variant.specs.declared.variant.Variant.{Variant}
use Rattle.oa_table.specs.declared.difference.Difference.{Difference}
use Rattle.oa_table.specs.promise.Events.{on_object, with_object}
use Rattle.oa_table.specs.promise.Objects.{with_put}
use Rattle.oa_table.specs.promise.Outcomes.{mapped}
use Rattle.oa_table.specs.promise.Places.{PlaceValue}
use Rattle.oa_table.specs.promise.Sizes.{object_size, table_size}
use Rattle.oa_table.specs.Sizes.{size_due}
use Rattle.oa_table.specs.promise.Tables.{ObjectValue, TableValue, cell_at, cell_in, object_at}
use Rattle.oa_table.specs.declared.fault.TableFault.{TableFault}
use Rattle.oa_table.proofs.Sums.{object_due, object_set_sum}
use Rattle.oa_table.proofs.Through.{back_in_object, done_in_object}
use Rattle.oa_table.proofs.objects.Objects.overwrite.Goals as goal

-- what an object takes and adds, the table takes and adds
sizes : {E : Type 0} (old new whole_old whole_new : ℕ) (result : Result Difference E) → whole_new + old ≡ whole_old + new
    → IfOk result (λ d. new + d.gone ≡ old + d.come) → IfOk result (λ d. whole_new + d.gone ≡ whole_old + d.come)
sizes old new whole_old whole_new (Ok d) sum h = omega (arith, sum, h)
sizes old new whole_old whole_new (Err back) sum h = tt

-- what an object hands back, the table hands back
refused : {U E : Type 0} (number : ℕ) (place : PlaceValue) (value : Variant) (t : TableValue) (object : ObjectValue) (longest size most : ℕ)
    (result : Result U E) → object_at number t ≡ Some object
    → OnErr result (IsOk (with_put place value object) → value_size value ≤ longest → size + size_due object_size (with_put place value object) object ≤ most
    + object_size object → cell_at place object.cells ≡ None)
    → OnErr result (IsOk (on_object number (with_put place value) t) → value_size value ≤ longest
    → size + size_due table_size (on_object number (with_put place value) t) t ≤ most + table_size t
    → cell_in place (object_at number t) ≡ None)
refused number place value t object longest size most (Ok u) there h = tt
refused number place value t object longest size most (Err back) there h = λ due short small.
    let sum = object_due number (with_put place value) t object (object_size object) (size_due object_size (with_put place value object) object) there
    (omega arith) in
    rw there (h (ok (with_put place value object) (rw there at due)) short (omega (arith, small, sum)))
  where
    ok : (due : Result ObjectValue TableFault) → IsOk (mapped (with_object number t) due) → IsOk due
    ok (Ok new) h = h
    ok (Err fault) h = h

pub returns-clause-done : goal.returns-clause-done
returns-clause-done c =
    let name = c.args.name.now in
    rw (← c.self.view_is) (done_in_object name.object c.self.inside.next (with_put name.place c.args.value) c.self.inside.objects _ c.in-Some.found.now
    c.overwrite.new.self (sym c.in-Some.ensures.value)
    (c.get_mut_near.follows.holds c.overwrite.new.self) c.overwrite.result c.overwrite.ensures.done)

pub returns-clause-size : goal.returns-clause-size
returns-clause-size c =
    let sum = object_set_sum c.args.name.now.object c.self.inside.next c.self.inside.objects _ c.in-Some.found.now c.overwrite.new.self
    (sym c.in-Some.ensures.value) (c.get_mut_near.follows.holds c.overwrite.new.self) in
    rw (← c.self.view_is) (sizes _ _ _ _ c.overwrite.result sum c.overwrite.ensures.size)

pub returns-clause-back : goal.returns-clause-back
returns-clause-back c =
    let name = c.args.name.now in
    rw (← c.self.view_is) (back_in_object name.object c.self.inside.next (with_put name.place c.args.value) c.self.inside.objects _ c.in-Some.found.now
    c.overwrite.new.self (sym c.in-Some.ensures.value)
    (c.get_mut_near.follows.holds c.overwrite.new.self) c.args.value c.overwrite.result c.overwrite.ensures.back)

pub returns-clause-refused : goal.returns-clause-refused
returns-clause-refused c =
    let name = c.args.name.now in
    rw (← c.self.view_is) (refused name.object name.place c.args.value (record { next = c.self.inside.next; objects = c.self.inside.objects })
    c.in-Some.found.now c.args.room.longest c.args.room.size c.args.room.most
    c.overwrite.result (sym c.in-Some.ensures.value) c.overwrite.ensures.refused)
