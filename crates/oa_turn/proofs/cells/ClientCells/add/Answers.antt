use Rattle.std.proofs.Common.{sym}
use Rattle.oa_turn.proofs.InClient.{counts_more, counts_more_counted}
use Rattle.oa_turn.proofs.cells.ClientCells.add.Goals as goal

pub invariant_of-self-2 : goal.invariant_of-self-2
invariant_of-self-2 c = counts_more_counted c.args.cell c.self.inside.counts c.insert.new.self c.count_of-held.result c.self.invariant
    c.in_default.ensures.entries

pub returns-clause-added : goal.returns-clause-added
returns-clause-added c =
    rw (sym c.self.view_is) (counts_more c.args.cell c.self.inside.counts c.insert.new.self c.count_of-held.result c.len-count.ensures.ordered c.self.invariant
    c.count_of-held.ensures c.in_default.ensures.entries)
