use Rattle.std.proofs.Common.{Bor, List, ℕ, refl}
use Rattle.oa_idl.specs.declared.parts.Parameter.{Parameter}
use Rattle.oa_sema.proofs.Loops.{mapped_more}
use Rattle.oa_sema.proofs.checks.parameter_names.Goals as goal

pub loop-parameter-preserved : goal.loop-parameter-preserved
loop-parameter-preserved c = mapped_more (λ (n : Bor (List ℕ)). n.now) (λ (p : Parameter). p.name) c.loop-parameter.names.items c.push.new.self.items
    c.args.parameters.now c.loop-parameter.parameter-index _ c.parameter-item.result
    c.loop-parameter.invariant c.in_ok-push.ensures.items refl c.loop-parameter-test.true c.parameter-item.is
