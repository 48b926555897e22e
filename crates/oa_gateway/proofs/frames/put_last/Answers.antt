use Rattle.std.proofs.Common.{drop}
use Rattle.oa_gateway.proofs.Spelling.{put_last}
use Rattle.oa_gateway.proofs.frames.put_last.Goals as goal

pub returns-clause-some : goal.returns-clause-some
returns-clause-some c = put_last c.frames_are_read.ensures.last c.args.number c.put_frame.new.out (drop 8 c.args.out.now) c.requires c.put_frame.ensures
