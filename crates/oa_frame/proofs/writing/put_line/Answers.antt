use Rattle.std.proofs.Common.{[], ◌∷◌, ◌++◌, subst, sym}
use Rattle.std.proofs.lemmas.Result.{err_from_is_err_and}
use Rattle.hex.specs.Hex.{encode_lower}
use Rattle.oa_stream.specs.promise.Sink.{Breaks}
use Rattle.oa_stream.specs.Sink.{Puts}
use Rattle.oa_stream.proofs.Stretches.{breaks_before, puts_then}
use Rattle.oa_frame.proofs.HexDigits.{hex_two}
use Rattle.oa_frame.proofs.writing.put_line.Goals as goal

pub returns-in_err-put_head : goal.returns-in_err-put_head
returns-in_err-put_head g c =
    let p = err_from_is_err_and c.from_residual.result c.from_residual.ensures.1 in
    rw p.1 (subst (Breaks _ _) (sym (hex_two c.args.head.now c.args.fields.now (10 ∷ [])))
    (breaks_before _ _ (encode_lower c.args.head.now) (encode_lower c.args.fields.now ++ 10 ∷ []) c.in_err-put_head.ensures))

pub returns : goal.returns
returns g c =
    subst (Puts c.put_rest.result _ _) (sym (hex_two c.args.head.now c.args.fields.now (10 ∷ [])))
    (puts_then c.put_rest.result _ _ _ (encode_lower c.args.head.now) (encode_lower c.args.fields.now ++ 10 ∷ []) c.in_ok-put_head.ensures c.put_rest.ensures)
