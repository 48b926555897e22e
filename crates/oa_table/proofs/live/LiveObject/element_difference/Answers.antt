use Rattle.std.proofs.Common.{sym}
use Rattle.oa_table.specs.promise.Elements.{with_element_put}
use Rattle.oa_table.proofs.Sums.{cell_due}
use Rattle.oa_table.proofs.live.LiveObject.element_difference.Goals as goal

pub returns-in-Some-clause-size : goal.returns-in-Some-clause-size
returns-in-Some-clause-size c =
    let there = sym c.in-Some.ensures in
    cell_due c.args.place.now (with_element_put c.args.index.now c.args.element.now) c.args.self.now c.in-Some.value.now _ _ there
    c.element_difference.ensures.size
