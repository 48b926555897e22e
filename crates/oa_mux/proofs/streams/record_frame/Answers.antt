use Rattle.std.proofs.Common.{arith}
use Rattle.oa_mux.proofs.RecordFrames.{is_record_frame}
use Rattle.oa_mux.proofs.streams.record_frame.Goals as goal

pub returns : goal.returns
returns c =
    let some = c.if-n-eq0.false in
    let same = c.if-count-n.false in
    let inside = c.if-rest-count.false in
    let front = c.in_ok-head.ensures.cases in
    is_record_frame c.args.bytes.now c.in_ok-head.head.now c.in_ok-head.rest.now c.in_ok-length.length.now c.in-Bytes.client c.in-Bytes.count
    c.from_le_bytes-n.result
    front.0 front.1 c.in_ok-length.ensures.cases.0 c.in-Bytes.ensures.head c.from_le_bytes-n.ensures (omega (arith, some)) (omega (arith, same))
    (omega (arith, inside)) front.2
