use Rattle.oa_journal.proofs.Damages as law
use Rattle.oa_journal.proofs.laws.bank_has_its_library.Goals as goal

pub returns : goal.returns
returns c = law.bank_library
