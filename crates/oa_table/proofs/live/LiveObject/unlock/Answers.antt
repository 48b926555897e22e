use Rattle.std.proofs.Common.{sym}
use Rattle.oa_table.specs.promise.Elements.{released_value}
use Rattle.oa_table.proofs.Through.{counts_in_cell}
use Rattle.oa_table.proofs.live.LiveObject.unlock.Goals as goal

pub returns : goal.returns
returns c =
    rw (← c.self.view_is) (counts_in_cell c.args.place.now released_value c.self.inside.class c.self.inside.cells _ c.in-Some.value.now c.unlock.new.value
    (sym c.in-Some.ensures.value)
    (c.get_mut.follows.holds c.unlock.new.value) c.unlock.result c.unlock.ensures)
