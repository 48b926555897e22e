use Rattle.oa_printer.proofs.PrintedTrees.{is_read}
use Rattle.oa_printer.proofs.laws.canonical_is_read.Goals as goal

pub returns : goal.returns
returns c = is_read
