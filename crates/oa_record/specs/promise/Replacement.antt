-- The body of REPLACE LIBRARY: its opcode and one field, the library's text, which is borrowed (this project's choice).
-- The field has the layout of a variant field: the number of bytes, a reserved number, the bytes, padding up to a
-- multiple of 8.
use Rattle.std.specs.Prelude.{ℕ, ◌+◌, ◌==◌, nat_lt, Bool, false, if◌then◌else◌, List, length, take, drop, Option, Some}
use Rattle.std.specs.Prelude.{None}
use Rattle.byteorder.specs.Endian.{little_number}
use Rattle.oa_model.specs.promise.Limits.{max_request_bytes}
use Rattle.oa_ndr.specs.promise.Forms.{padding}
use Rattle.oa_record.specs.promise.Opcodes.{opcode_at, opcode_number}
use Rattle.oa_record.specs.declared.opcode.Opcode.TheVariants as opcodes

-- The body has at least 8 bytes and the opcode of REPLACE LIBRARY.
abbrev pub is_replacement : List ℕ → Bool
is_replacement body = if nat_lt (length body) 8 then false else opcode_at body == opcode_number opcodes.Replace

-- The first `n` bytes, if these and their padding are all of the bytes.
abbrev pub padded_text : ℕ → List ℕ → Option (List ℕ)
padded_text n bytes = if length bytes == n + padding 8 n then Some (take n bytes) else None

-- The text in the body, after its length and a reserved number.
abbrev pub text_in : List ℕ → Option (List ℕ)
text_in body =
    if nat_lt (length body) 16 then None
    else if nat_lt max_request_bytes (length body) then None
    else padded_text (little_number 4 (drop 8 body)) (drop 16 body)
