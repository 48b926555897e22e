use Rattle.std.proofs.Common.{arith}
use Rattle.oa_ordered.proofs.Places.{lower_half, row_for_all, upper_half}
use Rattle.oa_ordered.proofs.rows.row_for.Goals as goal

pub halves-preserved-then-begins_after : goal.halves-preserved-then-begins_after
halves-preserved-then-begins_after g c =
    lower_half g.K.Ord.cmp g.met.K.Ord.total c.args.key.now c.args.rows.now c.requires c.halves.low c.halves.high c.halves.invariant c.halves-test.true
    c.index-rows-middle.result c.index-rows-middle.result c.index-rows-middle.is c.if-begins_after.ensures

pub halves-preserved : goal.halves-preserved
halves-preserved g c =
    upper_half g.K.Ord.cmp g.met.K.Ord.total c.args.key.now c.args.rows.now c.requires c.halves.low c.halves.high c.halves.invariant c.halves-test.true
    c.index-rows-middle.result c.index-rows-middle.result c.index-rows-middle.is c.if-begins_after.ensures

pub returns : goal.returns
returns g c = row_for_all g.K.Ord.cmp g.met.K.Ord.total c.args.key.now c.args.rows.now c.halves.low c.halves.high c.halves.invariant
    (omega (arith, c.halves-test.false))
