use Rattle.std.proofs.Common.{sym}
use Rattle.oa_turn.proofs.InClients.{adds, adds_none}
use Rattle.oa_turn.proofs.owners.LockTable.add_to.Goals as goal

pub returns-clause-added : goal.returns-clause-added
returns-clause-added c =
    rw (sym c.self.view_is) (adds c.args.client c.args.cell c.add.result c.self.inside.clients _ c.in-Some.cells.now c.add.new.self c.len-count.ensures.ordered
    (sym c.in-Some.ensures.value) (c.get_mut.follows.holds c.add.new.self) c.add.ensures.added)

pub returns-clause-err : goal.returns-clause-err
returns-clause-err c =
    rw (sym c.self.view_is) (adds_none c.args.client c.args.cell c.add.result c.self.inside.clients _ c.in-Some.cells.now c.add.new.self
    (sym c.in-Some.ensures.value) (c.get_mut.follows.holds c.add.new.self) c.add.ensures.err)
