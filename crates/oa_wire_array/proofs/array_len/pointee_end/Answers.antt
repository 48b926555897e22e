use Rattle.std.proofs.Common.{ap, length, arith}
use Rattle.oa_ndr.specs.promise.Forms.{padding}
use Rattle.oa_wire_array.proofs.ArrayLengths.{scalar_at_place, pointee_is_scalar}
use Rattle.oa_wire_array.proofs.array_len.pointee_end.Goals as goal

pub returns-in_default : goal.returns-in_default
returns-in_default c = record {
  value = λ out e.
      let same = ap length (pointee_is_scalar c.args.elem c.args.cell.now out c.in_default.not-Bstr) in
      let here = scalar_at_place c.args.cell.now out in
      let pad = ap (padding 8) e in
      omega (arith, same, here, pad, e, c.aligned.ensures.value, c.scalar_len.ensures.value);
  near = omega (arith, c.aligned.ensures.near, c.scalar_len.ensures.small);
}
