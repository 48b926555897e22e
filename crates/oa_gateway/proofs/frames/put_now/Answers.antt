use Rattle.oa_gateway.proofs.Spelling.{put_now}
use Rattle.oa_gateway.proofs.frames.put_now.Goals as goal

pub returns-clause-some : goal.returns-clause-some
returns-clause-some c =
    put_now c.frames_are_read.ensures.last c.frames_are_read.ensures.now c.put_frame.new.out c.put_frame-2.new.out c.args.out.now c.put_frame.ensures
    c.put_frame-2.ensures c.if-out-lt-NOW_BYTES.false
