use Rattle.std.proofs.Common.{sym}
use Rattle.oa_table.specs.promise.Elements.{redimensioned_value}
use Rattle.oa_table.proofs.Through.{does_in_cell}
use Rattle.oa_table.proofs.live.LiveObject.redim.Goals as goal

pub returns : goal.returns
returns c =
    rw (← c.self.view_is) (does_in_cell c.args.place.now (redimensioned_value c.args.bound) c.self.inside.class c.self.inside.cells _ c.in-Some.value.now
    c.redim.new.value (sym c.in-Some.ensures.value)
    (c.get_mut.follows.holds c.redim.new.value) c.args.bound c.redim.result c.redim.ensures)
