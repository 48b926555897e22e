use Rattle.oa_printer.specs.promise.Marked.{marked}
use Rattle.oa_printer.proofs.MarkedTrees.{printable_marked}
use Rattle.oa_printer.proofs.PrintedTrees.{is_read}
use Rattle.oa_printer.proofs.ReadTrees.{is_printable_tree}
use Rattle.oa_printer.proofs.laws.marked_is_read.Goals as goal

pub returns : goal.returns
returns c = λ text t is short. is_read (marked t) (printable_marked t (is_printable_tree text t is)) short
