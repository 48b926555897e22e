use Rattle.std.proofs.Common.{length-set, ◌∙◌}
use Rattle.oa_variant.specs.declared.scalar.Scalar.{Scalar}
use Rattle.oa_wire_array.specs.ArrayReading.{pointee_at}
use Rattle.oa_wire_array.proofs.Loops.{map_put}
use Rattle.oa_wire_array.proofs.array.pointees.Goals as goal

pub loop-i-preserved : goal.loop-i-preserved
loop-i-preserved c =
    let len = length-set {A = Scalar} c.loop-i.cells c.loop-i.i c.in_ok-next.next in
    rw c.replace.ensures.cells (
      len ∙ c.loop-i.invariant.0,
      map_put (pointee_at c.args.elem) c.loop-i.cells c.args.flags.now c.loop-i.i _ c.loop-i.r c.pointee.new.r c.in_ok-next.next _
          c.loop-i.invariant.0 c.loop-i-test.true c.in_ok-next.ensures c.loop-i.invariant.1,
    )
