-- Definitions for contracts and proofs, beside promise/Canon.
use Rattle.std.specs.Prelude.{ℕ, ◌+◌}
use Rattle.oa_model.specs.promise.Limits.{max_text_bytes}

-- The largest number of bytes of a scalar: the longest text after 36 bytes.
abbrev pub max_wire_scalar : ℕ
max_wire_scalar = 36 + max_text_bytes
