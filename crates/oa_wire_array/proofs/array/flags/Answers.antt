use Rattle.std.proofs.lemmas.Result.{err_from_is_err_and}
use Rattle.oa_ndr.specs.promise.Reading.{many}
use Rattle.oa_ndr.specs.Reading.{referent_at}
use Rattle.oa_ndr.proofs.Loop.{many_goes_on, many_ends, many_done}
use Rattle.oa_wire_array.proofs.array.flags.Goals as goal

pub loop-preserved : goal.loop-preserved
loop-preserved c =
    rw c.in_ok-push.ensures.items (many_goes_on referent_at c.loop.all.items c.args.count c.loop.counter c.loop.r c.referent.new.self c.in_ok-next.next
    (many referent_at c.args.count c.args.r.now) c.loop-test.true c.in_ok-next.ensures c.loop.invariant)

pub returns-in_err-next : goal.returns-in_err-next
returns-in_err-next c =
    let p = err_from_is_err_and c.from_residual.result c.from_residual.ensures.1 in
    rw (p.1, p.2) (many_ends referent_at c.loop.all.items c.args.count c.loop.counter c.loop.r (many referent_at c.args.count c.args.r.now) c.loop-test.true
    c.in_err-next.ensures.0 c.loop.invariant)

pub returns : goal.returns
returns c = many_done referent_at c.loop.all.items c.args.count c.loop.counter c.args.r.now c.loop.r c.loop-test.false c.loop.invariant
