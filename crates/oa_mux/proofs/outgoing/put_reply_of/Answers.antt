use Rattle.std.proofs.Common.{◌+◌, ◌++◌, arith, length, subst}
use Rattle.std.specs.Int.{to_le_bytes, w32}
use Rattle.std.proofs.lemmas.Result.{err_from_is_err_and}
use Rattle.oa_stream.specs.promise.Sink.{Breaks}
use Rattle.oa_stream.specs.Sink.{Puts}
use Rattle.oa_stream.proofs.Stretches.{breaks_before, puts_then}
use Rattle.oa_mux.specs.promise.Frames.{frame_head}
use Rattle.oa_mux.proofs.Putting.{laid_out}
use Rattle.oa_mux.proofs.outgoing.put_reply_of.Goals as goal

pub returns-in_err-put_front : goal.returns-in_err-put_front
returns-in_err-put_front g c =
    let p = err_from_is_err_and c.from_residual.result c.from_residual.ensures.1 in
    let head = c.args.head.now in
    let fields = c.args.fields.now in
    let n = 16 + length fields in
    let told = c.told-head in
    rw p.1 (subst (Breaks _ _) (laid_out c.args.client (4 + n) head fields (omega (arith, told)) (omega (arith, told)) n (omega (arith, told)))
    (breaks_before _ _ ((frame_head c.args.client (4 + n) ++ to_le_bytes w32 n) ++ head) fields c.in_err-put_front.ensures))

pub returns : goal.returns
returns g c =
    let head = c.args.head.now in
    let fields = c.args.fields.now in
    let n = 16 + length fields in
    let told = c.told-head in
    subst (Puts c.put_some.result _ _) (laid_out c.args.client (4 + n) head fields (omega (arith, told)) (omega (arith, told)) n (omega (arith, told)))
    (puts_then c.put_some.result _ _ _ ((frame_head c.args.client (4 + n) ++ to_le_bytes w32 n) ++ head) fields c.in_ok-put_front.ensures c.put_some.ensures)
