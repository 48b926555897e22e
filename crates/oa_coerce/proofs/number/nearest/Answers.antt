use Rattle.std.proofs.Common.{◌≤◌, ◌^◌, arith}
use Rattle.std.proofs.Math.Nat.{one-le-pow, pow-le-pow_right}
use Rattle.oa_coerce.proofs.number.nearest.Goals as goal

pub pow-unit-requires : goal.pow-unit-requires
pow-unit-requires c = let most : 10 ^ c.args.number.scale ≤ 10 ^ 28 = pow-le-pow_right (omega arith) c.requires.scale in omega (arith, most)

pub nearest_whole-count-requires-clause-unit : goal.nearest_whole-count-requires-clause-unit
nearest_whole-count-requires-clause-unit c =
    let most : 10 ^ c.args.number.scale ≤ 10 ^ 28 = pow-le-pow_right (omega arith) c.requires.scale in
    let least = one-le-pow c.args.number.scale 10 (omega arith) in
    rw c.pow-unit.ensures (omega (arith, least), omega (arith, most))
