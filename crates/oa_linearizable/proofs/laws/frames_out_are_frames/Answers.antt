use Rattle.oa_linearizable.proofs.FramesOut.{one_list}
use Rattle.oa_linearizable.proofs.laws.frames_out_are_frames.Goals as goal

pub returns : goal.returns
returns c = one_list
