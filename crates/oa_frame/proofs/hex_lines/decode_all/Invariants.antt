use Rattle.std.proofs.Common.{◌≡◌, ◌-◌, ◌%◌, ◌≤◌, true, false, length}
use Rattle.oa_frame.specs.Digits.{AreDecoded, HasBadPair}
use Rattle.oa_frame.proofs.hex_lines.decode_all.Given as goal

abbrev pub invariant-rest : goal.invariant-rest
invariant-rest l = record {
  within : l.at ≤ l.count;
  whole : (l.count - l.at) % 16 ≡ 0;
  len : length l.buffer ≡ length l.fn.buffer;
  good : l.good ≡ true → AreDecoded l.line l.buffer l.at;
  bad : l.good ≡ false → HasBadPair l.line l.count;
}

abbrev pub decreases-rest : goal.decreases-rest
decreases-rest l = l.count - l.at
