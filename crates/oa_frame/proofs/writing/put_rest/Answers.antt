use Rattle.std.proofs.Common.{[], ◌∷◌}
use Rattle.std.proofs.lemmas.Result.{err_from_is_err_and}
use Rattle.hex.specs.Hex.{encode_lower}
use Rattle.oa_stream.proofs.Stretches.{breaks_before, puts_then}
use Rattle.oa_frame.proofs.writing.put_rest.Goals as goal

pub returns-in_err-put_hex : goal.returns-in_err-put_hex
returns-in_err-put_hex g c =
    let p = err_from_is_err_and c.from_residual.result c.from_residual.ensures.1 in
    rw p.1 (breaks_before _ _ (encode_lower c.args.fields.now) (10 ∷ []) c.in_err-put_hex.ensures)

pub returns : goal.returns
returns g c = puts_then c.put.result _ _ _ (encode_lower c.args.fields.now) (10 ∷ []) c.in_ok-put_hex.ensures c.put.ensures
