use Rattle.std.proofs.Common.{◌≡◌, ◌+◌, refl, rules}
use Rattle.std.proofs.lemmas.Result.{err_from_is_err_and}
use Rattle.oa_record.proofs.Judged.{broken_read, spell_more, bad_type_read, ends_behind}
use Rattle.oa_record.proofs.reading.values.Goals as goal

pub returns-in_err-sound-in-Err-BadVarType-clause-judged : goal.returns-in_err-sound-in-Err-BadVarType-clause-judged
returns-in_err-sound-in-Err-BadVarType-clause-judged c =
    let p = err_from_is_err_and c.from_residual-in_err-sound-in-Err-BadVarType.result c.from_residual-in_err-sound-in-Err-BadVarType.ensures.1 in
    rw (p.1, p.2) (ends_behind c.args.fields.now (c.len-at.result + 1) c.in_err-sound-in-Err-BadVarType.field-0.0 c.in_err-sound-in-Err-BadVarType.ensures)

pub returns-in-Err-BadVarType-clause-judged : goal.returns-in-Err-BadVarType-clause-judged
returns-in-Err-BadVarType-clause-judged c =
    let at : c.len-at.result ≡ c.fields.field-index = search rules in (
      c.len-at.result,
      refl,
      bad_type_read c.args.fields.now c.fields.field-index c.len-at.result _ c.in-Err-BadVarType.field-0 c.fields.values.items
          c.fields-test.true at c.fields.invariant.spelled c.in-Err-BadVarType.field-0-is c.in-Err-BadVarType.ensures.exact
          c.in_ok-sound-in-Err-BadVarType.ensures,
    )

pub returns-in-Err-BadStub-clause-judged : goal.returns-in-Err-BadStub-clause-judged
returns-in-Err-BadStub-clause-judged c =
    broken_read c.args.fields.now c.fields.field-index _ c.in-Err-BadStub.field-0 c.fields-test.true c.in-Err-BadStub.field-0-is c.in-Err-BadStub.ensures.exact

pub fields-preserved : goal.fields-preserved
fields-preserved c = record {
  count = search rules;
  spelled =
      rw c.in_ok-push-in-Ok.ensures.items (spell_more c.args.fields.now c.fields.field-index _ c.fields.values.items c.in-Ok.value c.fields-test.true
      c.fields.invariant.spelled c.in-Ok.ensures.exact);
}
