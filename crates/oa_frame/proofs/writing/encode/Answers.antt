use Rattle.std.proofs.Common.{arith, length, rules, ◌<◌, ◌+◌, ◌*◌}
use Rattle.hex.specs.Hex.{lower_digits}
use Rattle.hex.proofs.Pairs.{encode_step}
use Rattle.oa_frame.proofs.HexDigits.{all_digits}
use Rattle.oa_frame.proofs.writing.encode.Goals as goal

pub bytes-preserved : goal.bytes-preserved
bytes-preserved c =
    let room : 2 * c.bytes.i + 1 < length c.bytes.digits = let below = c.bytes-test.true in let same = c.bytes.invariant.len in let enough = c.requires in
    omega (arith, below, same, enough) in
    record {
      len = search rules;
      digits = encode_step lower_digits c.args.piece.now c.bytes.digits c.bytes.i _ _ (omega arith) room c.digit.ensures c.digit-in-bytes.ensures
          c.bytes.invariant.digits;
    }

pub returns-clause-digits : goal.returns-clause-digits
returns-clause-digits c = all_digits c.args.piece.now c.bytes.digits c.bytes.i (length c.args.piece.now) (omega arith) (omega arith) c.bytes.invariant.digits
