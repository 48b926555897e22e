use Rattle.std.proofs.Common.{rules, ℕ, List, Bor, map}
use Rattle.std.proofs.lemmas.List.{map_push}
use Rattle.std.proofs.lemmas.Result.{err_from_is_err_and}
use Rattle.oa_ndr.specs.promise.Reading.{many}
use Rattle.oa_ndr.proofs.Loop.{many_goes_on, many_ends, many_done}
use Rattle.oa_record.specs.Reading.{field_at}
use Rattle.oa_record.proofs.layout.fields.Goals as goal

pub fields-preserved : goal.fields-preserved
fields-preserved c = record {
  read =
      rw (c.in_ok-push.ensures.items, map_push)
      (many_goes_on field_at (map (λ (x : Bor (List ℕ)). x.now) c.fields.all.items) c.args.count c.fields.counter c.fields.r c.field.new.r c.in_ok-next.next.now
      (many field_at c.args.count c.args.r.now) c.fields-test.true c.in_ok-next.ensures c.fields.invariant.read);
  count = search rules;
}

pub returns-in_err-next-clause-answers : goal.returns-in_err-next-clause-answers
returns-in_err-next-clause-answers c =
    let p = err_from_is_err_and c.from_residual-in_err-next.result c.from_residual-in_err-next.ensures.1 in
    rw (p.1, p.2) (many_ends field_at (map (λ (x : Bor (List ℕ)). x.now) c.fields.all.items) c.args.count c.fields.counter c.fields.r
    (many field_at c.args.count c.args.r.now) c.fields-test.true c.in_err-next.ensures c.fields.invariant.read)

pub returns-clause-answers : goal.returns-clause-answers
returns-clause-answers c = many_done field_at (map (λ (x : Bor (List ℕ)). x.now) c.fields.all.items) c.args.count c.fields.counter c.args.r.now c.fields.r
    c.fields-test.false c.fields.invariant.read
