use Rattle.std.proofs.Common.{rules, ◌≡◌, sym, ap, ◌∙◌}
use Rattle.oa_turn.proofs.InClients.{none_fewer_there, takes}
use Rattle.oa_turn.specs.Kept.{all_locks}
use Rattle.oa_turn.proofs.owners.LockTable.release_one.Goals as goal

pub returns-in_default : goal.returns-in_default
returns-in_default c =
    let same : c.get_mut.follows.lender-at-none ≡ c.self.inside.clients = search rules in
    rw (sym c.self.view_is) (ap all_locks same
    ∙ sym (none_fewer_there c.args.client c.args.cell.now c.self.inside.clients c.len-count.ensures.ordered (sym c.in_default.ensures.value)))

pub returns : goal.returns
returns c =
    rw (sym c.self.view_is) (takes c.args.client c.args.cell.now c.self.inside.clients _ c.in-Some.cells.now c.release_one.new.self c.len-count.ensures.ordered
    (sym c.in-Some.ensures.value) (c.get_mut.follows.holds c.release_one.new.self) c.release_one.ensures)
