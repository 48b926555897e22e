use Rattle.std.proofs.Common.{◌≡◌, true, false, length}
use Rattle.oa_frame.specs.Digits.{AreDecoded, HasBadPair}
use Rattle.oa_frame.proofs.hex_lines.decode_few.Given as goal

abbrev pub invariant-pairs : goal.invariant-pairs
invariant-pairs l = record {
  len : length l.buffer ≡ length l.fn.buffer;
  good : l.good ≡ true → AreDecoded l.line l.buffer l.i;
  bad : l.good ≡ false → HasBadPair l.line l.i;
}
