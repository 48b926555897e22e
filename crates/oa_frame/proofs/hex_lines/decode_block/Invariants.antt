use Rattle.std.proofs.Common.{◌≡◌, ◌+◌, ◌<◌, ℕ, length, slice_index}
use Rattle.oa_frame.proofs.hex_lines.decode_block.Given as goal

abbrev pub invariant-bytes : goal.invariant-bytes
invariant-bytes l = record {
  len : length l.buffer ≡ length l.fn.buffer;
  before : (j : ℕ) → j < l.at → slice_index l.buffer j ≡ slice_index l.fn.buffer j;
  written : (j : ℕ) → j < l.k → slice_index l.buffer (l.at + j) ≡ slice_index l.bytes j;
}
