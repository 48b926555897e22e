use Rattle.std.proofs.Common.{sym, ap, ◌∙◌}
use Rattle.oa_turn.proofs.InClients.{cells_in, ended, own_cells}
use Rattle.oa_turn.specs.Kept.{all_locks}
use Rattle.oa_turn.proofs.owners.LockTable.release_all.Goals as goal

pub returns-in_default-clause-others : goal.returns-in_default-clause-others
returns-in_default-clause-others c =
    rw (sym c.self.view_is) (ap all_locks c.in_default.ensures.entries ∙ sym (ended c.args.client c.self.inside.clients c.len-count.ensures.ordered))

pub returns-in_default-clause-own : goal.returns-in_default-clause-own
returns-in_default-clause-own c =
    rw (sym c.self.view_is) (c.new.ensures
    ∙ sym (own_cells c.args.client c.self.inside.clients c.len-count.ensures.ordered ∙ ap cells_in (sym c.in_default.ensures.value)))

pub returns-clause-others : goal.returns-clause-others
returns-clause-others c =
    rw (sym c.self.view_is) (ap all_locks c.in-Some.ensures.entries ∙ sym (ended c.args.client c.self.inside.clients c.len-count.ensures.ordered))

pub returns-clause-own : goal.returns-clause-own
returns-clause-own c =
    rw (sym c.self.view_is) (sym (own_cells c.args.client c.self.inside.clients c.len-count.ensures.ordered ∙ ap cells_in (sym c.in-Some.ensures.value)))
