use Rattle.std.proofs.Common.{rules, Vec, Global, ℕ, map}
use Rattle.std.proofs.lemmas.List.{map_push}
use Rattle.std.proofs.lemmas.Result.{err_from_is_err_and}
use Rattle.oa_ndr.specs.promise.Reading.{many}
use Rattle.oa_ndr.proofs.Loop.{many_goes_on}
use Rattle.oa_record.specs.Reading.{string_at}
use Rattle.oa_record.proofs.Fallible.{many_fails}
use Rattle.oa_record.proofs.layout.strings.Goals as goal

pub returns-in_err-next-clause-answers : goal.returns-in_err-next-clause-answers
returns-in_err-next-clause-answers c =
    let p = err_from_is_err_and c.from_residual.result c.from_residual.ensures.1 in
    rw (p.1, p.2) (many_fails string_at (map (λ (x : Vec ℕ Global). x.items) c.strings.all.items) c.args.count c.strings.counter c.strings.r
    (many string_at c.args.count c.args.r.now) c.in_err-next.field-0.0 c.strings-test.true c.in_err-next.ensures c.strings.invariant.read)

pub strings-preserved : goal.strings-preserved
strings-preserved c = record {
  read =
      rw (c.in_ok-push.ensures.items, map_push)
      (many_goes_on string_at (map (λ (x : Vec ℕ Global). x.items) c.strings.all.items) c.args.count c.strings.counter c.strings.r c.string.new.r
      c.in_ok-next.next.items (many string_at c.args.count c.args.r.now) c.strings-test.true c.in_ok-next.ensures c.strings.invariant.read);
  count = search rules;
}
