use Rattle.std.proofs.Common.{ap, ◌∙◌, ◌%◌, length, ℕ, arith}
use Rattle.oa_wire_array.specs.promise.ArrayCanon.{put_array}
use Rattle.oa_wire_array.proofs.ArrayLengths.{before_cells, before_len}
use Rattle.oa_wire_array.proofs.array_len.array_end.Goals as goal

pub returns : goal.returns
unfolding put_array
returns c =
    let is = c.cells-cells.ensures.array in
    let dims = ap length c.bounds.ensures in
    let count = ap length c.cells-cells.ensures.value in
    record {
      value = λ out e.
          let before = before_len c.args.array.now out (ap (λ (n : ℕ). n % 4) e ∙ c.requires.place) in
          let here = c.elements_end.ensures.value (before_cells c.args.array.now out) (omega (arith, before, e, dims)) in
          rw (c.elem.ensures, c.cells-cells.ensures.value) at here;
      near = omega (arith, c.elements_end.ensures.near, count, dims, is.whole, is.shape.small, is.shape.few, c.requires.small);
    }
