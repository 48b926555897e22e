use Rattle.std.proofs.Common.{arith, SFits, w32, rules}
use Rattle.std.proofs.lemmas.Int.{ints}
use Rattle.oa_array.proofs.Places.{position-below}
use Rattle.oa_array.proofs.Walks.{no_index, outside_bound, place_steps, place_returns}
use Rattle.oa_array.proofs.position.position.Goals as goal

pub returns-then-size-eq0 : goal.returns-then-size-eq0
returns-then-size-eq0 c = λ h. omega (arith, position-below c.args.bounds.now c.args.index.now h, c.requires.whole, c.if-size-eq0.true)

pub dimensions-preserved : goal.dimensions-preserved
dimensions-preserved c =
    let fits : SFits w32 c.in_ok-first.first.now = search rules in
    place_steps c.args.bounds.now c.args.index.now c.dimensions.open.now c.dimensions.given.now c.dimensions.place c.in-Some.bound.now c.in-Some.more.now
    c.in_ok-first.first.now c.in_ok-first.rest.now c.in_ok-above.above c.from.result c.from-in-Some.result
    c.in-Some.ensures.cases.0
    c.in_ok-first.ensures.cases.0
    (omega (arith, ints, c.in_ok-above.ensures.0))
    c.in_ok-above.ensures.1
    c.from.ensures
    c.from-in-Some.ensures
    c.dimensions.invariant

pub returns : goal.returns
returns c =
    place_returns c.args.bounds.now c.args.index.now c.dimensions.open.now c.dimensions.given.now c.dimensions.place c.args.size c.is_empty.result
    c.then_some.result c.then_some.ensures c.is_empty.ensures c.in_default.ensures.cases c.requires.whole c.dimensions.invariant

pub returns-in_err-first : goal.returns-in_err-first
returns-in_err-first c =
    rw c.from_residual.ensures (no_index c.args.bounds.now c.args.index.now c.dimensions.open.now c.dimensions.given.now c.dimensions.place c.in-Some.bound.now
    c.in-Some.more.now c.in-Some.ensures.cases.0 c.in_err-first.ensures.cases c.dimensions.invariant)

pub returns-in_err-above : goal.returns-in_err-above
returns-in_err-above c =
    let fits : SFits w32 c.in_ok-first.first.now = search rules in
    rw c.from_residual-in_err-above.ensures (outside_bound c.args.bounds.now c.args.index.now c.dimensions.open.now c.dimensions.given.now c.dimensions.place
    c.in-Some.bound.now c.in-Some.more.now c.in_ok-first.first.now c.in_ok-first.rest.now
    c.in-Some.ensures.cases.0
    c.in_ok-first.ensures.cases.0
    (λ h. c.in_err-above.ensures (omega (arith, ints, h.0), omega (arith, ints, h.1)))
    c.dimensions.invariant)
