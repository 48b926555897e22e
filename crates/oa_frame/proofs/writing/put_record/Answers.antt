use Rattle.std.proofs.Common.{◌++◌, append_assoc, length, subst}
use Rattle.std.specs.Int.{to_le_bytes, w32}
use Rattle.std.proofs.lemmas.Result.{err_from_is_err_and}
use Rattle.oa_stream.specs.promise.Sink.{Breaks}
use Rattle.oa_stream.specs.Sink.{Puts}
use Rattle.oa_stream.proofs.Stretches.{breaks_before, puts_then}
use Rattle.oa_frame.proofs.writing.put_record.Goals as goal

pub returns-in_err-put_front : goal.returns-in_err-put_front
returns-in_err-put_front g c =
    let p = err_from_is_err_and c.from_residual.result c.from_residual.ensures.1 in
    let size = to_le_bytes w32 (length (c.args.head.now ++ c.args.fields.now)) in
    rw p.1 (subst (Breaks _ _) (append_assoc size c.args.head.now c.args.fields.now)
    (breaks_before _ _ (size ++ c.args.head.now) c.args.fields.now c.in_err-put_front.ensures))

pub returns : goal.returns
returns g c =
    let size = to_le_bytes w32 (length (c.args.head.now ++ c.args.fields.now)) in
    subst (Puts c.put_some.result _ _) (append_assoc size c.args.head.now c.args.fields.now)
    (puts_then c.put_some.result _ _ _ (size ++ c.args.head.now) c.args.fields.now c.in_ok-put_front.ensures c.put_some.ensures)
