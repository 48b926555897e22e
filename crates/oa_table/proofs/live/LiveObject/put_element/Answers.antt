use Rattle.std.proofs.Common.{sym}
use Rattle.oa_table.specs.promise.Elements.{with_element_put}
use Rattle.oa_table.proofs.Through.{does_in_cell}
use Rattle.oa_table.proofs.live.LiveObject.put_element.Goals as goal

pub returns-clause-does : goal.returns-clause-does
returns-clause-does c =
    rw (← c.self.view_is) (does_in_cell c.args.place.now (with_element_put c.args.index.now c.args.element) c.self.inside.class c.self.inside.cells _
    c.in-Some.value.now c.put_element.new.value (sym c.in-Some.ensures.value)
    (c.get_mut.follows.holds c.put_element.new.value) c.args.element c.put_element.result c.put_element.ensures.does)
