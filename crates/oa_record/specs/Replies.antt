-- Definitions for contracts and proofs, beside promise/Replies.
use Rattle.std.specs.Prelude.{ℕ, ◌-◌, ◌*◌, ◌/◌}

-- The largest number of bytes of a reply's fields: with the 16 bytes before them, a u32 can count them.
abbrev pub max_fields_bytes : ℕ
max_fields_bytes = 4294967275

-- The largest number of bytes of a value in a reply: after the 8 bytes before it, and with its padding.
abbrev pub max_value_bytes : ℕ
max_value_bytes = (max_fields_bytes - 8) / 8 * 8
