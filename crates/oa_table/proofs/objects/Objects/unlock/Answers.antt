use Rattle.std.proofs.Common.{refl, sym}
use Rattle.oa_table.specs.promise.Elements.{released_value}
use Rattle.oa_table.specs.Locks.{locks_at}
use Rattle.oa_table.specs.promise.Objects.{locks_of_cell, with_change}
use Rattle.oa_table.proofs.Through.{counts_in_object, locks_seen}
use Rattle.oa_table.proofs.objects.Objects.unlock.Goals as goal

pub returns : goal.returns
returns c =
    let name = c.args.name.now in
    let there = sym c.in-Some.ensures.value in
    let set = (c.get_mut_near.follows.holds c.unlock.new.self) in
    rw (← c.self.view_is) (counts_in_object name.object c.self.inside.next (with_change name.place released_value) c.self.inside.objects _ c.in-Some.found.now
    c.unlock.new.self there set c.unlock.result (locks_of_cell name.place) (locks_at name)
    (locks_seen name.object c.self.inside.next (with_change name.place released_value) c.self.inside.objects _ c.in-Some.found.now c.unlock.new.self there set
    name refl) c.unlock.ensures)
