use Rattle.std.proofs.Common.{sym, ap, ◌∙◌}
use Rattle.oa_turn.proofs.InClients.{same_cells_of_all}
use Rattle.oa_turn.specs.Kept.{all_locked_cells}
use Rattle.oa_turn.proofs.owners.LockTable.clients.Goals as goal

pub returns : goal.returns
returns c = rw (sym c.self.view_is) (ap all_locked_cells c.iter.ensures.rest ∙ same_cells_of_all c.self.inside.clients)
