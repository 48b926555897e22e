use Rattle.std.proofs.Common.{ap, arith, ◌≤◌}
use Rattle.oa_table.specs.Sizes.{largest_image}
use Rattle.oa_table.specs.promise.Sizes.{table_size}
use Rattle.oa_table.proofs.Starved.{too_long}
use Rattle.oa_table.proofs.table.Table.change.Goals as goal

pub returns-then-size-gt-LARGEST_IMAGE-clause-starved : goal.returns-then-size-gt-LARGEST_IMAGE-clause-starved
returns-then-size-gt-LARGEST_IMAGE-clause-starved c is =
    let kept : table_size c.args.self.now ≤ largest_image = omega (arith, c.self.invariant.sum, c.self.invariant.small, ap table_size c.self.view_is) in
    too_long c.args.event c.args.self.now kept (omega (arith, c.size_after-size.ensures, c.if-size-gt-LARGEST_IMAGE.true))
