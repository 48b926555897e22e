-- Definitions for contracts and proofs, beside promise/Opcodes.
use Rattle.std.specs.Prelude.{ℕ, nat_lt, if◌then◌else◌, List, length, Option, None}
use Rattle.oa_record.specs.declared.opcode.Opcode.{Opcode}
use Rattle.oa_record.specs.promise.Opcodes.{opcode_named, opcode_at}

-- The opcode of a body; None if the body has fewer than 8 bytes or no opcode has this number.
abbrev pub opcode_in : List ℕ → Option Opcode
opcode_in body = if nat_lt (length body) 8 then None else opcode_named (opcode_at body)
