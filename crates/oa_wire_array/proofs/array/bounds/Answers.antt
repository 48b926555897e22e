use Rattle.std.proofs.lemmas.Result.{err_from_is_err_and}
use Rattle.oa_ndr.specs.promise.Reading.{many}
use Rattle.oa_ndr.proofs.Loop.{many_goes_on, many_done}
use Rattle.oa_wire_array.specs.ArrayReading.{bound_at}
use Rattle.oa_wire_array.proofs.Loops.{many_err}
use Rattle.oa_wire_array.proofs.array.bounds.Goals as goal

pub loop-preserved : goal.loop-preserved
loop-preserved c =
    rw c.in_ok-push.ensures.items (many_goes_on bound_at c.loop.all.items c.args.dims c.loop.counter c.loop.r c.bound.new.r c.in_ok-next.next
    (many bound_at c.args.dims c.args.r.now) c.loop-test.true c.in_ok-next.ensures c.loop.invariant)

pub returns-in_err-next : goal.returns-in_err-next
returns-in_err-next c =
    let p = err_from_is_err_and c.from_residual.result c.from_residual.ensures.1 in
    rw (p.1, p.2) (many_err bound_at c.in_err-next.field-0.0 c.loop.all.items c.args.dims c.loop.counter c.loop.r c.bound.new.r c.bound.new.r
    (many bound_at c.args.dims c.args.r.now) c.loop-test.true c.in_err-next.ensures c.loop.invariant)

pub returns : goal.returns
returns c = many_done bound_at c.loop.all.items c.args.dims c.loop.counter c.args.r.now c.loop.r c.loop-test.false c.loop.invariant
