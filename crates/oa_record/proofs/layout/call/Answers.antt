use Rattle.std.proofs.Common.{◌≤◌, length, arith}
use Rattle.std.proofs.lemmas.Result.{err_from_is_err_and}
use Rattle.oa_record.proofs.HeadLengths.{unit_there, head_there, behind_anyhow}
use Rattle.oa_record.proofs.layout.call.Goals as goal

pub returns-in_err-named-clause-long : goal.returns-in_err-named-clause-long
returns-in_err-named-clause-long c =
    let p = err_from_is_err_and c.from_residual-in_err-named.result c.from_residual-in_err-named.ensures.1 in
    let long : 56 ≤ length c.args.r.now.rest =
    omega (arith, head_there _ _ _ c.in_ok-head.ensures, unit_there 4 _ _ _ c.in_ok-count.ensures, unit_there 4 _ _ _ c.in_ok-named_count.ensures) in
    rw (p.1, p.2) (behind_anyhow 56 c.in_err-named.field-0.0 c.args.r.now long)

pub returns-in_err-fields-clause-long : goal.returns-in_err-fields-clause-long
returns-in_err-fields-clause-long c =
    let p = err_from_is_err_and c.from_residual-in_err-fields.result c.from_residual-in_err-fields.ensures.1 in
    let long : 56 ≤ length c.args.r.now.rest =
    omega (arith, head_there _ _ _ c.in_ok-head.ensures, unit_there 4 _ _ _ c.in_ok-count.ensures, unit_there 4 _ _ _ c.in_ok-named_count.ensures) in
    rw (p.1, p.2) (behind_anyhow 56 c.in_err-fields.field-0.0 c.args.r.now long)

pub returns-clause-long : goal.returns-clause-long
returns-clause-long c =
    omega (arith, head_there _ _ _ c.in_ok-head.ensures, unit_there 4 _ _ _ c.in_ok-count.ensures, unit_there 4 _ _ _ c.in_ok-named_count.ensures)
