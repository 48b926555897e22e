use Rattle.std.proofs.Common.{◌<◌, ◌≤◌, length, arith}
use Rattle.oa_table.proofs.Sums.{cut_sum, resized_sum}
use Rattle.oa_table.proofs.difference.elements_kept.Goals as goal

pub returns-then-count-cells-clause-size : goal.returns-then-count-cells-clause-size
returns-then-count-cells-clause-size c =
    let a = c.args.array.now in
    let less : c.args.count < length a.cells = rw c.cells-cells.ensures.value at c.if-count-cells.true in
    rw (c.elements_len-gone.ensures.value, c.elem-elem.ensures, c.cells-cells.ensures.value) (omega (arith, cut_sum a.elem c.args.count a.cells less))

pub returns-clause-size : goal.returns-clause-size
returns-clause-size c =
    let a = c.args.array.now in
    let more : length a.cells ≤ c.args.count = rw c.cells-cells.ensures.value at c.if-count-cells.false in
    rw (c.element_len.ensures.value, c.zero.ensures, c.elem-elem.ensures, c.cells-cells.ensures.value)
    (omega (arith, resized_sum a.elem c.args.count a.cells more))
