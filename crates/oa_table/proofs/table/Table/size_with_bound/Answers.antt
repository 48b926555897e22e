use Rattle.std.proofs.Common.{sym, arith}
use Rattle.oa_table.specs.promise.Objects.{with_change}
use Rattle.oa_table.specs.promise.Elements.{redimensioned_value}
use Rattle.oa_table.proofs.Sums.{object_due}
use Rattle.oa_table.proofs.table.Table.size_with_bound.Goals as goal

pub overflow_sub-result : goal.overflow_sub-result
overflow_sub-result c =
    let name = c.args.name.now in
    let due = object_due name.object (with_change name.place (redimensioned_value c.args.bound)) c.self.inside.objects c.in-Some.object.now _ _
    (sym c.in-Some.ensures) c.redim_difference-change.ensures.size in
    omega (arith, due, c.self.invariant.sum)

pub returns-in-Some : goal.returns-in-Some
returns-in-Some c =
    let name = c.args.name.now in
    let due = object_due name.object (with_change name.place (redimensioned_value c.args.bound)) c.self.inside.objects c.in-Some.object.now _ _
    (sym c.in-Some.ensures) c.redim_difference-change.ensures.size in
    rw (← c.self.view_is) (omega (arith, due, c.self.invariant.sum))
