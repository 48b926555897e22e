use Rattle.std.proofs.Common.{arith}
use Rattle.oa_journal.proofs.Banks.{length-first}
use Rattle.oa_storage_tests.proofs.journal.begin.Goals as goal

pub start-requires-clause-fits : goal.start-requires-clause-fits
start-requires-clause-fits c = rw c.requires.first (omega (arith, c.requires.few, length-first))
