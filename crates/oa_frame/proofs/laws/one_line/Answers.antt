use Rattle.oa_frame.proofs.OneSplit.{one_line}
use Rattle.oa_frame.proofs.laws.one_line.Goals as goal

pub returns : goal.returns
returns c = one_line
