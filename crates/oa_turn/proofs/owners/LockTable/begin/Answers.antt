use Rattle.std.proofs.Common.{sym}
use Rattle.oa_turn.proofs.InClients.{begins}
use Rattle.oa_turn.proofs.owners.LockTable.begin.Goals as goal

pub returns : goal.returns
returns c =
    rw (sym c.self.view_is) (begins c.args.client c.insert.result c.self.inside.clients c.insert.new.self c.new-cells.result c.new-cells.ensures
    (sym c.in-None.ensures) c.insert.ensures.entries c.insert.ensures.err)
