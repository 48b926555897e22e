use Rattle.std.proofs.Common.{Vec, Global, ℕ, ap, ◌∙◌}
use Rattle.oa_model.specs.promise.Folding.{folded_name}
use Rattle.oa_sema.specs.promise.DeclarationValues.{DeclarationValue}
use Rattle.oa_sema.proofs.Loops.{mapped_more}
use Rattle.oa_sema.proofs.member_checks.folded_names.Goals as goal

pub loop-declaration-preserved : goal.loop-declaration-preserved
loop-declaration-preserved c = mapped_more (λ (k : Vec ℕ Global). k.items) (λ (d : DeclarationValue). folded_name d.name) c.loop-declaration.keys.items
    c.push.new.self.items c.args.all.now c.loop-declaration.declaration-index _ c.declaration-item.result
    c.loop-declaration.invariant c.in_ok-push.ensures.items (c.in_ok-folded.ensures ∙ ap (λ (d : DeclarationValue). folded_name d.name) c.declaration.view_is)
    c.loop-declaration-test.true c.declaration-item.is
