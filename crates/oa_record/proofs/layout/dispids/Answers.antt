use Rattle.std.proofs.Common.{rules}
use Rattle.std.specs.Prelude.{FitsSigned}
use Rattle.std.specs.Int.{w32}
use Rattle.std.proofs.lemmas.Int.{to_z-of_z}
use Rattle.std.proofs.lemmas.Result.{err_from_is_err_and}
use Rattle.oa_ndr.specs.promise.Reading.{many}
use Rattle.oa_ndr.proofs.Loop.{many_goes_on, many_ends, many_done}
use Rattle.oa_record.specs.Reading.{dispid_at}
use Rattle.oa_record.proofs.layout.dispids.Goals as goal

pub dispids-preserved : goal.dispids-preserved
dispids-preserved c =
    let fits : FitsSigned w32 c.in_ok-next.next = search rules in
    record {
      read = rw (c.in_ok-push.ensures.items, to_z-of_z w32 c.in_ok-next.next fits)
          (many_goes_on dispid_at c.dispids.all.items c.args.count c.dispids.counter c.dispids.r c.dispid.new.r c.in_ok-next.next
          (many dispid_at c.args.count c.args.r.now) c.dispids-test.true c.in_ok-next.ensures c.dispids.invariant.read);
      count = search rules;
    }

pub returns-in_err-next-clause-answers : goal.returns-in_err-next-clause-answers
returns-in_err-next-clause-answers c =
    let p = err_from_is_err_and c.from_residual-in_err-next.result c.from_residual-in_err-next.ensures.1 in
    rw (p.1, p.2) (many_ends dispid_at c.dispids.all.items c.args.count c.dispids.counter c.dispids.r
    (many dispid_at c.args.count c.args.r.now) c.dispids-test.true c.in_err-next.ensures c.dispids.invariant.read)

pub returns-clause-answers : goal.returns-clause-answers
returns-clause-answers c = many_done dispid_at c.dispids.all.items c.args.count c.dispids.counter c.args.r.now c.dispids.r c.dispids-test.false
    c.dispids.invariant.read
