use Rattle.oa_journal.proofs.Banks as law
use Rattle.oa_journal.proofs.laws.one_bank.Goals as goal

pub returns : goal.returns
returns c = law.one_bank
