use Rattle.std.proofs.Common.{◌≤◌, length, arith}
use Rattle.std.proofs.lemmas.Result.{err_from_is_err_and}
use Rattle.oa_record.proofs.HeadLengths.{guid_there, behind_anyhow, unit_there}
use Rattle.oa_record.proofs.layout.get_ids.Goals as goal

pub returns-in_err-names-clause-long : goal.returns-in_err-names-clause-long
returns-in_err-names-clause-long c =
    let p = err_from_is_err_and c.from_residual-in_err-names.result c.from_residual-in_err-names.ensures.1 in
    let long : 48 ≤ length c.args.r.now.rest =
    omega (
      arith,
      unit_there 4 _ _ _ c.in_ok-object.ensures,
      unit_there 4 _ _ _ c.in_ok-u32.ensures,
      guid_there _ _ _ c.in_ok-interface.ensures,
      guid_there _ _ _ c.in_ok-riid.ensures,
      unit_there 4 _ _ _ c.in_ok-lcid.ensures,
      unit_there 4 _ _ _ c.in_ok-count.ensures,
    ) in
    rw (p.1, p.2) (behind_anyhow 48 c.in_err-names.field-0.0 c.args.r.now long)

pub returns-clause-long : goal.returns-clause-long
returns-clause-long c =
    omega (
      arith,
      unit_there 4 _ _ _ c.in_ok-object.ensures,
      unit_there 4 _ _ _ c.in_ok-u32.ensures,
      guid_there _ _ _ c.in_ok-interface.ensures,
      guid_there _ _ _ c.in_ok-riid.ensures,
      unit_there 4 _ _ _ c.in_ok-lcid.ensures,
      unit_there 4 _ _ _ c.in_ok-count.ensures,
    )
