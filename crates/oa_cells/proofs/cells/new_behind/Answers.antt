use Rattle.oa_cells.proofs.Filled.{none_called}
use Rattle.oa_cells.proofs.cells.new_behind.Goals as goal

pub returns-then-len-kept-clause-filled : goal.returns-then-len-kept-clause-filled
returns-then-len-kept-clause-filled g c = none_called _ c.args.fill c.args.kept c.in_ok-part.part.items c.in_ok-part.ensures.1
