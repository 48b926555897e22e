use Rattle.oa_mux.proofs.Framed.{frame_read, last_read, now_read}
use Rattle.oa_mux.proofs.laws.frames_are_read.Goals as goal

pub returns : goal.returns
returns c = record { bytes = frame_read; last = last_read; now = now_read }
