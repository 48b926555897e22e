use Rattle.std.proofs.Common.{◌≡◌, arith}
use Rattle.oa_table.proofs.Sums.{redim_due}
use Rattle.oa_table.proofs.difference.array_resized.Goals as goal

pub returns-in-Some-clause-size : goal.returns-in-Some-clause-size
returns-in-Some-clause-size c =
    let a = c.args.array.now in
    let free : a.locks ≡ 0 = omega (arith, c.if-locks-gt0.false, c.locks.ensures) in
    redim_due a c.args.bound c.in-Some.count _ _ c.cells-cells.ensures.array.shape.some free c.in-Some.ensures.0 c.in-Some.ensures.1
    c.elements_kept.ensures.size
