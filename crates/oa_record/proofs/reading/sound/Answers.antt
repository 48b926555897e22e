use Rattle.std.proofs.lemmas.Result.{err_from_is_err_and}
use Rattle.oa_record.specs.promise.Asks.{IsUnbroken}
use Rattle.oa_record.proofs.Judged.{all_more, sound_ends}
use Rattle.oa_record.proofs.reading.sound.Goals as goal

pub returns-in_err-unbroken : goal.returns-in_err-unbroken
returns-in_err-unbroken c =
    let p = err_from_is_err_and c.from_residual.result c.from_residual.ensures.1 in
    rw (p.1, p.2) (sound_ends c.args.fields.now c.fields.field-index _ c.in_err-unbroken.field-0.0 c.fields-test.true c.in_err-unbroken.ensures)

pub fields-preserved : goal.fields-preserved
fields-preserved c = all_more IsUnbroken c.args.fields.now c.fields.field-index _ c.fields-test.true c.fields.invariant c.in_ok-unbroken.ensures
