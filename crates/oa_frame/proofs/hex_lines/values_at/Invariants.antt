use Rattle.std.proofs.Common.{◌≡◌, ◌+◌, ◌<◌, ℕ, length, slice_index}
use Rattle.oa_frame.specs.Digits.{HasDigitValue}
use Rattle.oa_frame.proofs.hex_lines.values_at.Given as goal

abbrev pub invariant-digits : goal.invariant-digits
invariant-digits l = record {
  len : length l.values ≡ 32;
  read : (j : ℕ) → j < l.k → HasDigitValue (slice_index l.line (l.from + j)) (slice_index l.values j);
}
