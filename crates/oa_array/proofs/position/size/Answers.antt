use Rattle.std.proofs.Common.{arith, ◌+◌, ◌∷◌}
use Rattle.oa_array.proofs.Walks.{size_begins, size_steps, size_returns}
use Rattle.oa_array.proofs.position.size.Goals as goal

pub dimensions-preserved : goal.dimensions-preserved
dimensions-preserved c =
    size_steps (c.args.first ∷ c.args.others.now) c.dimensions.left.now c.dimensions.size c.in-Some.bound.now c.in-Some.more.now c.from-in-Some.result
    c.min-size-in-Some.result
    c.in-Some.ensures.cases.0
    c.from-in-Some.ensures
    (omega (arith, c.min-size-in-Some.ensures, c.from-past.ensures))
    c.dimensions.invariant

pub returns : goal.returns
returns c = size_returns (c.args.first ∷ c.args.others.now) c.dimensions.left.now c.dimensions.size
    (c.from-past.result + 1) c.then_some.result c.then_some.ensures (omega (arith, c.from-past.ensures)) c.in_default.ensures.cases c.dimensions.invariant

pub dimensions-init : goal.dimensions-init
dimensions-init c = size_begins c.args.first c.args.others.now c.min-size.result (omega (arith, c.min-size.ensures, c.from.ensures, c.from-past.ensures))
