use Rattle.std.proofs.Common.{arith, refl}
use Rattle.oa_frame.proofs.HexDigits.{all_decoded, badly_decoded}
use Rattle.oa_frame.proofs.hex_lines.decode.Goals as goal

pub returns-then-decode_all-clause-some : goal.returns-then-decode_all-clause-some
returns-then-decode_all-clause-some c =
    let even = c.if-line-ne0.false in
    let room = c.requires in
    let same = c.decode_all.ensures.len in
    all_decoded c.args.line.now c.decode_all.new.buffer _ refl even (omega (arith, room, same)) (c.decode_all.ensures.some c.if-decode_all.true)

pub returns-else-decode_all-clause-none : goal.returns-else-decode_all-clause-none
returns-else-decode_all-clause-none c = λ _. badly_decoded c.args.line.now _ refl c.if-line-ne0.false (c.decode_all.ensures.none c.if-decode_all.false)
