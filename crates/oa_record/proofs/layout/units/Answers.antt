use Rattle.std.proofs.lemmas.Result.{err_from_is_err_and}
use Rattle.oa_ndr.specs.promise.Reading.{many}
use Rattle.oa_ndr.specs.Reading.{unit_at}
use Rattle.oa_ndr.proofs.Loop.{many_goes_on, many_ends, many_done}
use Rattle.oa_record.proofs.layout.units.Goals as goal

pub units-preserved : goal.units-preserved
units-preserved c =
    rw c.in_ok-push.ensures.items (many_goes_on (unit_at 2) c.units.all.items c.args.count c.units.counter c.units.r c.u16.new.self c.in_ok-next.next
    (many (unit_at 2) c.args.count c.args.r.now) c.units-test.true c.in_ok-next.ensures c.units.invariant)

pub returns-in_err-next : goal.returns-in_err-next
returns-in_err-next c =
    let p = err_from_is_err_and c.from_residual.result c.from_residual.ensures.1 in
    rw (p.1, p.2) (many_ends (unit_at 2) c.units.all.items c.args.count c.units.counter c.units.r (many (unit_at 2) c.args.count c.args.r.now) c.units-test.true
    c.in_err-next.ensures.0 c.units.invariant)

pub returns : goal.returns
returns c = many_done (unit_at 2) c.units.all.items c.args.count c.units.counter c.args.r.now c.units.r c.units-test.false c.units.invariant
