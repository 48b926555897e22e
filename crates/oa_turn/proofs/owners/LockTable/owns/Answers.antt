use Rattle.std.proofs.Common.{sym, ap, ◌∙◌}
use Rattle.oa_turn.proofs.InClients.{cells_in, has_one}
use Rattle.oa_turn.specs.Kept.{has_cell}
use Rattle.oa_turn.proofs.owners.LockTable.owns.Goals as goal

pub returns-in_default : goal.returns-in_default
returns-in_default c =
    rw (sym c.self.view_is) (sym (has_one c.args.client c.args.cell.now c.self.inside.clients c.len-count.ensures.ordered
    ∙ ap (λ o. has_cell c.args.cell.now (cells_in o)) (sym c.in_default.ensures)))

pub returns : goal.returns
returns c =
    rw (sym c.self.view_is) (c.has.ensures
    ∙ sym (has_one c.args.client c.args.cell.now c.self.inside.clients c.len-count.ensures.ordered
    ∙ ap (λ o. has_cell c.args.cell.now (cells_in o)) (sym c.in-Some.ensures)))
