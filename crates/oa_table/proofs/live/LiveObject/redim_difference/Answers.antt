use Rattle.std.proofs.Common.{sym}
use Rattle.oa_table.specs.promise.Elements.{redimensioned_value}
use Rattle.oa_table.proofs.Sums.{cell_due}
use Rattle.oa_table.proofs.live.LiveObject.redim_difference.Goals as goal

pub returns-in-Some-clause-size : goal.returns-in-Some-clause-size
returns-in-Some-clause-size c =
    let there = sym c.in-Some.ensures in
    cell_due c.args.place.now (redimensioned_value c.args.bound) c.args.self.now c.in-Some.value.now _ _ there c.redim_difference.ensures.size
