use Rattle.std.proofs.Common.{◌≡◌, false, leb, length-set, length, ◌*◌, ◌∙◌, rules}
use Rattle.oa_variant.specs.declared.scalar.Scalar.{Scalar}
use Rattle.oa_wire_array.specs.Reading.{arm_at}
use Rattle.oa_wire_array.specs.ArrayCanon.{plain_width}
use Rattle.oa_wire_array.proofs.Ahead.{no_cells}
use Rattle.oa_wire_array.proofs.Loops.{cells_put}
use Rattle.oa_wire_array.proofs.array.plain.Goals as goal

pub loop-i-preserved : goal.loop-i-preserved
loop-i-preserved c =
    let len = length-set {A = Scalar} c.loop-i.cells c.loop-i.i c.in_ok-next.next in
    rw c.replace.ensures.cells (
      len ∙ c.loop-i.invariant.0,
      cells_put (arm_at c.args.elem) c.loop-i.cells c.args.count c.loop-i.i c.loop-i.r c.arm.new.r c.in_ok-next.next _
          c.loop-i.invariant.0 c.loop-i-test.true c.in_ok-next.ensures.value c.loop-i.invariant.1,
    )

pub returns-then-not-are_there : goal.returns-then-not-are_there
returns-then-not-are_there c =
    let few : leb (c.args.count * plain_width c.args.elem) (length c.args.r.now.rest) ≡ false = search rules in
    no_cells c.args.elem c.args.count c.args.r.now few
