use Rattle.std.proofs.Common.{ℕ, subst, min}
use Rattle.oa_disk.specs.promise.Memory.{IsTornAt, memory_contents}
use Rattle.oa_disk.specs.Memory.{memory_image_since}
use Rattle.oa_history.proofs.stopping.cut.Goals as goal

pub returns-clause-torn : goal.returns-clause-torn
returns-clause-torn c =
    let image = memory_contents c.in_ok-left.left in
    let session = c.args.session.now in
    subst (λ (n : ℕ). IsTornAt c.args.disk session.tear (min session.moment n) image) c.moments.ensures
    (subst (λ (n : ℕ). IsTornAt c.args.disk session.tear n image) c.min.ensures c.in_ok-left.ensures.torn)

pub returns-clause-left : goal.returns-clause-left
returns-clause-left c =
    let image = memory_contents c.in_ok-left.left in
    subst (λ (n : ℕ). memory_image_since c.args.disk (min c.args.session.now.moment n) image) c.moments.ensures
    (subst (λ (n : ℕ). memory_image_since c.args.disk n image) c.min.ensures c.in_ok-left.ensures.left)
