use Rattle.std.proofs.Common.{refl, sym}
use Rattle.oa_table.specs.promise.Elements.{locked_value}
use Rattle.oa_table.specs.Locks.{locks_at}
use Rattle.oa_table.specs.promise.Objects.{locks_of_cell, with_change}
use Rattle.oa_table.proofs.Through.{counts_in_object, locks_seen}
use Rattle.oa_table.proofs.objects.Objects.lock.Goals as goal

pub returns : goal.returns
returns c =
    let name = c.args.name.now in
    let there = sym c.in-Some.ensures.value in
    let set = (c.get_mut_near.follows.holds c.lock.new.self) in
    rw (← c.self.view_is) (counts_in_object name.object c.self.inside.next (with_change name.place locked_value) c.self.inside.objects _ c.in-Some.found.now
    c.lock.new.self there set c.lock.result (locks_of_cell name.place) (locks_at name)
    (locks_seen name.object c.self.inside.next (with_change name.place locked_value) c.self.inside.objects _ c.in-Some.found.now c.lock.new.self there set name
    refl) c.lock.ensures)
