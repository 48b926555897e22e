use Rattle.std.proofs.Common.{sym, subst}
use Rattle.oa_turn.proofs.InClient.{last_counted, more_held, more_held_counted, none_held, one_held}
use Rattle.oa_turn.specs.Kept.{AreCounted}
use Rattle.oa_turn.proofs.cells.ClientCells.release_one.Goals as goal

pub returns-then-held-eq0 : goal.returns-then-held-eq0
returns-then-held-eq0 c =
    rw (sym c.self.view_is) (none_held c.args.cell.now c.self.inside.counts c.count_of-held.result c.self.invariant c.count_of-held.ensures c.if-held-eq0.true)

pub invariant_of-self : goal.invariant_of-self
invariant_of-self c = subst (λ l. AreCounted l) (sym c.remove.ensures.entries) (last_counted c.args.cell.now c.self.inside.counts c.self.invariant)

pub returns-then-held-eq1 : goal.returns-then-held-eq1
returns-then-held-eq1 c =
    rw (sym c.self.view_is) (one_held c.args.cell.now c.self.inside.counts c.remove.new.self c.count_of-held.result c.count_of-held.ensures c.if-held-eq1.true
    c.remove.ensures.entries)

pub invariant_of-self-2 : goal.invariant_of-self-2
invariant_of-self-2 c = more_held_counted c.args.cell.now c.self.inside.counts _ c.count_of-held.result c.self.invariant c.if-held-eq0.false c.if-held-eq1.false
    (c.get_mut.follows.holds _)

pub returns : goal.returns
returns c =
    rw (sym c.self.view_is) (more_held c.args.cell.now c.self.inside.counts _ c.count_of-held.result c.count_of-held.ensures c.if-held-eq0.false
    (c.get_mut.follows.holds _))
