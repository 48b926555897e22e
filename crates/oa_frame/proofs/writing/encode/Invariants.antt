use Rattle.std.proofs.Common.{◌≡◌, ◌*◌, ◌++◌, take, drop, length}
use Rattle.hex.specs.Hex.{encode_lower}
use Rattle.oa_frame.proofs.writing.encode.Given as goal

abbrev pub invariant-bytes : goal.invariant-bytes
invariant-bytes l = record {
  len : length l.digits ≡ length l.fn.digits;
  digits : take (2 * l.i) l.digits ++ encode_lower (drop l.i l.piece) ≡ encode_lower l.piece;
}
