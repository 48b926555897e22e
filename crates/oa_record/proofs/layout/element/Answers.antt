use Rattle.std.proofs.lemmas.Result.{err_from_is_err_and}
use Rattle.oa_record.proofs.HeadLengths.{behind_anyhow}
use Rattle.oa_record.proofs.layout.element.Goals as goal

pub returns-in_err-indices-clause-long : goal.returns-in_err-indices-clause-long
returns-in_err-indices-clause-long c =
    let p = err_from_is_err_and c.from_residual-in_err-indices.result c.from_residual-in_err-indices.ensures.1 in
    rw (p.1, p.2) (behind_anyhow 56 c.in_err-indices.field-0.0 c.args.r.now c.in_ok-call.ensures.long)
