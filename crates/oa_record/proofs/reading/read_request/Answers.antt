use Rattle.std.proofs.Common.{◌≤◌, length, rules}
use Rattle.std.proofs.lemmas.Result.{err_from_is_err_and}
use Rattle.oa_model.specs.promise.Limits.{max_request_bytes}
use Rattle.oa_record.specs.Shown.{shown}
use Rattle.oa_record.proofs.Requests.{answered, no_parts}
use Rattle.oa_record.proofs.reading.read_request.Goals as goal

pub returns-in_err-parts : goal.returns-in_err-parts
returns-in_err-parts c =
    let p = err_from_is_err_and c.from_residual.result c.from_residual.ensures.1 in
    let short : length c.args.body.now ≤ max_request_bytes = search rules in
    rw (p.1, p.2) (no_parts c.args.body.now c.in_err-parts.field-0.0 short c.in_err-parts.ensures.all c.in_err-parts.ensures.memory)

pub returns : goal.returns
returns c =
    let short : length c.args.body.now ≤ max_request_bytes = search rules in
    answered c.args.body.now (shown c.in_ok-parts.parts) c.request.result short c.in_ok-parts.ensures.all c.request.ensures
