use Rattle.oa_printer.proofs.ReadTrees.{is_printable_tree}
use Rattle.oa_printer.proofs.laws.every_tree_is_printable.Goals as goal

pub returns : goal.returns
returns c = is_printable_tree
