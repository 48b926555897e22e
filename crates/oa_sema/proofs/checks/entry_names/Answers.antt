use Rattle.std.proofs.Common.{Bor, List, ℕ, refl}
use Rattle.oa_idl.specs.declared.parts.Entry.{Entry}
use Rattle.oa_sema.proofs.Loops.{mapped_more}
use Rattle.oa_sema.proofs.checks.entry_names.Goals as goal

pub loop-entry-preserved : goal.loop-entry-preserved
loop-entry-preserved c = mapped_more (λ (n : Bor (List ℕ)). n.now) (λ (e : Entry). e.interface) c.loop-entry.names.items c.push.new.self.items
    c.args.entries.now c.loop-entry.entry-index _ c.entry-item.result
    c.loop-entry.invariant c.in_ok-push.ensures.items refl c.loop-entry-test.true c.entry-item.is
