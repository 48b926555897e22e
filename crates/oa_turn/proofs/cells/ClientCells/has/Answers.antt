use Rattle.std.proofs.Common.{sym}
use Rattle.oa_turn.proofs.InClient.{held_has}
use Rattle.oa_turn.proofs.cells.ClientCells.has.Goals as goal

pub returns : goal.returns
returns c = rw (sym c.self.view_is) (held_has c.args.cell.now c.self.inside.counts c.count_of.result c.self.invariant c.count_of.ensures)
