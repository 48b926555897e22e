use Rattle.oa_printer.proofs.MarkedTrees.{printable_marked}
use Rattle.oa_printer.proofs.laws.marked_is_printable.Goals as goal

pub returns : goal.returns
returns c = printable_marked
