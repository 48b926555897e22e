use Rattle.std.proofs.Common.{◌<◌, length, arith, rules}
use Rattle.oa_frame.proofs.HexDigits.{value_more}
use Rattle.oa_frame.proofs.hex_lines.values_at.Goals as goal

pub digits-preserved : goal.digits-preserved
digits-preserved c =
    let room : c.digits.k < length c.digits.values = let below = c.digits-test.true in let same = c.digits.invariant.len in omega (arith, below, same) in
    record {
      len = search rules;
      read = value_more c.args.line.now c.digits.values c.args.from c.digits.k c.digit.result room c.digit.ensures c.digits.invariant.read;
    }

pub returns : goal.returns
returns c = λ k below. c.digits.invariant.read k (let end = c.digits-test.false in omega (arith, below, end))
