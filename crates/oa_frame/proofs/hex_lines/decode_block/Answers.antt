use Rattle.std.proofs.Common.{◌≡◌, ◌<◌, ◌+◌, arith, length, refl, rules}
use Rattle.oa_frame.proofs.HexDigits.{block_bad, block_more, kept_more, written_more}
use Rattle.oa_frame.proofs.hex_lines.decode_block.Goals as goal

pub bytes-init : goal.bytes-init
bytes-init c = record { len = refl; before = λ j below. refl; written = λ j below. absurd (omega (arith, below)) }

pub bytes-preserved : goal.bytes-preserved
bytes-preserved c =
    let room : c.args.at + c.bytes.k < length c.bytes.buffer = let below = c.bytes-test.true in let same = c.bytes.invariant.len in let enough =
    c.requires.room in omega (arith, below, same, enough) in
    record {
      len = search rules;
      before = kept_more _ c.bytes.buffer c.args.at c.bytes.k _ c.bytes.invariant.before;
      written = written_more _ c.bytes.buffer c.args.at c.bytes.k room c.bytes.invariant.written;
    }

pub returns-clause-some : goal.returns-clause-some
returns-clause-some c = λ h.
    let end : 16 ≡ c.bytes.k = let over = c.bytes-test.false in let end = c.bytes.auto.k-end in omega (arith, over, end) in
    block_more c.args.line.now c.args.buffer.now c.bytes.buffer c.values_at-values.result c.joined-bytes.result c.args.at c.bytes.invariant.before
    (λ j below. c.bytes.invariant.written j (omega (arith, below, end))) c.joined-bytes.ensures c.values_at-values.ensures (c.are_digits.ensures.some h)

pub returns-clause-none : goal.returns-clause-none
returns-clause-none c = λ h. block_bad c.args.line.now c.values_at-values.result c.args.at c.values_at-values.ensures (c.are_digits.ensures.none h)
