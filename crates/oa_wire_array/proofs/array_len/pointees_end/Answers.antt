use Rattle.std.proofs.Common.{◌≡◌, List, ℕ, length, subst, arith}
use Rattle.oa_variant.specs.declared.scalar.Scalar.{Scalar}
use Rattle.oa_wire_array.specs.promise.ArrayCanon.{put_pointee}
use Rattle.oa_wire_array.proofs.ArrayLengths.{runs_on, runs_end}
use Rattle.oa_wire_array.proofs.array_len.pointees_end.Goals as goal

pub loop-cell-preserved : goal.loop-cell-preserved
loop-cell-preserved c =
    let step = subst (λ (v : Scalar). (out : List ℕ) → length out ≡ c.loop-cell.end → length (put_pointee c.args.elem v out) ≡ c.pointee_end-end.result)
    c.cell-item.is c.pointee_end-end.ensures.value in
    record {
      near = omega (arith, c.loop-cell.invariant.near, c.pointee_end-end.ensures.near);
      value = runs_on c.args.elem c.args.cells.now c.loop-cell.cell-index c.args.place c.loop-cell.end c.pointee_end-end.result c.cell-item.result
          c.loop-cell-test.true step c.loop-cell.invariant.value;
    }

pub returns : goal.returns
returns c = record {
  value = runs_end c.args.elem c.args.cells.now c.loop-cell.cell-index c.args.place c.loop-cell.end c.loop-cell-test.false c.loop-cell.invariant.value;
  near = omega (arith, c.loop-cell.invariant.near, c.loop-cell.auto.cell-index-end);
}
