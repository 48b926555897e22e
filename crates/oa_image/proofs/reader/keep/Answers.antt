use Rattle.std.proofs.Common.{arith}
use Rattle.oa_image.proofs.Taken.{can_be_last, closed_is, closed_taken, places_sorted}
use Rattle.oa_image.proofs.reader.keep.Goals as goal

pub from_sorted-requires : goal.from_sorted-requires
from_sorted-requires c = places_sorted c.args.table.now c.args.object c.requires.valid c.requires.none (omega (arith, c.if-object-gt0.false))

pub push-requires : goal.push-requires
push-requires c = rw c.in_ok-cells.ensures (can_be_last c.args.table.now c.args.object c.requires.valid c.requires.none (omega (arith, c.if-object-gt0.false)))

pub returns-clause-taken : goal.returns-clause-taken
returns-clause-taken c =
    closed_taken c.args.table.now c.args.object c.requires.valid c.requires.none (omega (arith, c.if-object-gt0.false)) c.push.new.self
    (rw c.in_ok-cells.ensures at c.in_ok-push.ensures.pushed)

pub returns-clause-between : goal.returns-clause-between
returns-clause-between c =
    let is = closed_is c.args.table.now c.args.object c.requires.valid c.requires.none (omega (arith, c.if-object-gt0.false)) c.push.new.self
    (rw c.in_ok-cells.ensures at c.in_ok-push.ensures.pushed) in
    (is, rw c.requires.none tt)
