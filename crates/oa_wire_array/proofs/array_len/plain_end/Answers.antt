use Rattle.std.proofs.Common.{◌<◌, ap, length, arith, rules}
use Rattle.oa_ndr.specs.promise.Forms.{padding}
use Rattle.oa_wire_array.proofs.ArrayLengths.{row_from, row_small, own_types}
use Rattle.oa_wire_array.proofs.array_len.plain_end.Goals as goal

pub returns : goal.returns
returns c =
    let some : 0 < length c.args.cells.now = search rules in
    let own = own_types c.args.elem c.requires.plain c.args.cells.now c.requires.fits in
    let few = row_small (length c.args.cells.now) c.plain_len-width.result c.plain_len-width.ensures.width in
    record {
      value = λ out e.
          let here = row_from c.args.elem c.plain_len-width.result c.plain_len-width.ensures.width c.plain_len-width.ensures.value c.requires.plain
          c.args.cells.now own some out in
          let pad = ap (padding c.plain_len-width.result) e in
          omega (arith, here, pad, e, c.aligned.ensures.value);
      near = omega (arith, few, some, c.aligned.ensures.near, c.plain_len-width.ensures.small);
    }
