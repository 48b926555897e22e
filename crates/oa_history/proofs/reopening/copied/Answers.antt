use Rattle.std.proofs.Common.{ℕ, subst}
use Rattle.oa_disk.specs.promise.Memory.{IsTornAt, memory_contents}
use Rattle.oa_disk.specs.declared.crash.Tear.TheVariants.{Kept}
use Rattle.oa_history.proofs.Crashed.{kept_is_read}
use Rattle.oa_history.proofs.reopening.copied.Goals as goal

pub returns-clause-contents : goal.returns-clause-contents
returns-clause-contents c =
    let disk = c.args.disk.now in
    let image = memory_contents c.in_ok-crash.field-0 in
    kept_is_read disk image (subst (λ (n : ℕ). IsTornAt disk Kept n image) c.moments.ensures c.in_ok-crash.ensures.torn)
