use Rattle.oa_journal.proofs.Banks as law
use Rattle.oa_journal.proofs.laws.one_replay.Goals as goal

pub returns : goal.returns
returns c = law.one_replay
