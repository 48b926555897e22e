use Rattle.std.proofs.Common.{◌≡◌, arith, ap, sym, ◌∙◌}
use Rattle.oa_array.specs.promise.Boxes.{box_size}
use Rattle.oa_array.specs.promise.Arrays.{kept_by_position, with_first}
use Rattle.oa_array.specs.Heads.{bounds_in}
use Rattle.oa_array.proofs.Redim.{count_found, redimensioned_is, redimensioned_array}
use Rattle.oa_array.proofs.array.SafeArray.redim.Goals as goal

pub invariant_of-self-2 : goal.invariant_of-self-2
invariant_of-self-2 g c =
    let a = c.self.inside in
    let head = a.head.value in
    let count = count_found c.redim_count.result _ c.in_ok-count.count c.in_ok-count.ensures.ok_part c.redim_count.ensures in
    let size = count.0 ∙ sym (ap (λ v. box_size (with_first c.args.bound v.bounds)) c.self.view_is) in
    let kept = c.in_ok-resize.ensures ∙ ap (λ h. kept_by_position (g.T.Cell.zero_of h.elem) c.in_ok-count.count a.cells) c.deref.ensures in
    rw (c.set_first.ensures, c.deref_mut.ensures.value)
    (redimensioned_array g.T.Cell.Fits head.elem (bounds_in head.bounds) a.cells c.resize.new.cells head.locks
    (g.T.Cell.zero_of head.elem) c.args.bound c.in_ok-count.count c.self.invariant (g.met.T.Cell.zero_fits head.elem c.self.invariant.shape.typed) size count.1
    kept)

pub returns : goal.returns
returns g c =
    let a = c.self.inside in
    let head = a.head.value in
    let count = count_found c.redim_count.result _ c.in_ok-count.count c.in_ok-count.ensures.ok_part c.redim_count.ensures in
    let size = count.0 ∙ sym (ap (λ v. box_size (with_first c.args.bound v.bounds)) c.self.view_is) in
    let kept = c.in_ok-resize.ensures ∙ ap (λ h. kept_by_position (g.T.Cell.zero_of h.elem) c.in_ok-count.count a.cells) c.deref.ensures in
    rw (← c.self.view_is, c.set_first.ensures, c.deref_mut.ensures.value) (
      omega (arith, c.if-locks-gt0.false, c.locks.ensures, ap (λ v. v.locks) c.self.view_is),
      omega (arith, size, count.1),
      redimensioned_is head.elem (bounds_in head.bounds) a.cells c.resize.new.cells head.locks (g.T.Cell.zero_of head.elem) c.args.bound c.in_ok-count.count
          c.self.invariant.shape.some size kept,
    )
