use Rattle.std.proofs.Common.{[], ◌∷◌, arith}
use Rattle.std.proofs.lemmas.List.{length-append}
use Rattle.std.proofs.lemmas.Result.{err_from_is_err_and}
use Rattle.oa_ndr.specs.promise.Reading.{many}
use Rattle.oa_ndr.proofs.Loop.{many_goes_on, many_done}
use Rattle.oa_formats.specs.promise.Formats.{times}
use Rattle.oa_formats.proofs.Loops.{many_err}
use Rattle.oa_formats.proofs.image.read_times.Goals as goal

pub values-preserved : goal.values-preserved
values-preserved g c = rw c.in_ok-push.ensures.items record {
  read = many_goes_on g.F.ReadImage.format.read c.values.all.items c.args.count c.values.counter c.values.r c.read.new.r c.in_ok-next.next _ c.values-test.true
      c.in_ok-next.ensures c.values.invariant.read;
  len = omega (arith, length-append c.values.all.items (c.in_ok-next.next ∷ []), c.values.invariant.len);
}

pub returns-in_err-next-clause-read : goal.returns-in_err-next-clause-read
unfolding times
returns-in_err-next-clause-read g c =
    let read = g.F.ReadImage.format.read in
    let p = err_from_is_err_and c.from_residual-in_err-next.result c.from_residual-in_err-next.ensures.1 in
    rw (p.1, p.2) (many_err read c.in_err-next.field-0.0 c.values.all.items c.args.count c.values.counter c.values.r c.read.new.r c.read.new.r
    (many read c.args.count c.args.r.now) c.values-test.true c.in_err-next.ensures c.values.invariant.read)

pub returns-clause-read : goal.returns-clause-read
unfolding times
returns-clause-read g c = many_done g.F.ReadImage.format.read c.values.all.items c.args.count c.values.counter c.args.r.now c.values.r c.values-test.false
    c.values.invariant.read
