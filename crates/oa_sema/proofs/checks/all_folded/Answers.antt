use Rattle.std.proofs.Common.{Bor, Vec, Global, List, ℕ}
use Rattle.oa_model.specs.promise.Folding.{folded_name}
use Rattle.oa_sema.proofs.Loops.{mapped_more}
use Rattle.oa_sema.proofs.checks.all_folded.Goals as goal

pub loop-name-preserved : goal.loop-name-preserved
loop-name-preserved c = mapped_more (λ (k : Vec ℕ Global). k.items) (λ (n : Bor (List ℕ)). folded_name n.now) c.loop-name.keys.items c.push.new.self.items
    c.args.names.now c.loop-name.name-index _ c.name-item.result
    c.loop-name.invariant c.in_ok-push.ensures.items c.in_ok-folded.ensures c.loop-name-test.true c.name-item.is
