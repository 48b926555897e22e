-- The opcodes and their numbers (this project's choice). Opcodes with the same fields are one variant of `Opcode`.
use Rattle.std.specs.Prelude.{ℕ, ◌==◌, if◌then◌else◌, List, drop, Option, Some, None}
use Rattle.byteorder.specs.Endian.{little_number}
use Rattle.oa_record.specs.declared.opcode.Opcode.{Opcode}
use Rattle.oa_record.specs.declared.opcode.Opcode.TheVariants as opcodes
use Rattle.oa_record.specs.declared.opcode.ByCall.TheVariants as by_call
use Rattle.oa_record.specs.declared.opcode.ByNumber.TheVariants as by_number
use Rattle.oa_record.specs.declared.opcode.Query.TheVariants as queries

-- The number of an opcode.
abbrev pub opcode_number : Opcode → ℕ
opcode_number opcodes.Create = 1
opcode_number (opcodes.ByNumber by_number.Release) = 2
opcode_number opcodes.GetIds = 3
opcode_number (opcodes.ByCall by_call.Invoke) = 4
opcode_number opcodes.GetElement = 5
opcode_number opcodes.PutElement = 6
opcode_number opcodes.Redimension = 7
opcode_number (opcodes.ByCall by_call.Lock) = 8
opcode_number (opcodes.ByCall by_call.Unlock) = 9
opcode_number (opcodes.ByNumber by_number.TypeInfo) = 10
opcode_number (opcodes.Query queries.Objects) = 11
opcode_number opcodes.Replace = 12

-- The opcode with a number, if there is one.
abbrev pub opcode_named : ℕ → Option Opcode
opcode_named n =
    if n == 1 then Some opcodes.Create
    else if n == 2 then Some (opcodes.ByNumber by_number.Release)
    else if n == 3 then Some opcodes.GetIds
    else if n == 4 then Some (opcodes.ByCall by_call.Invoke)
    else if n == 5 then Some opcodes.GetElement
    else if n == 6 then Some opcodes.PutElement
    else if n == 7 then Some opcodes.Redimension
    else if n == 8 then Some (opcodes.ByCall by_call.Lock)
    else if n == 9 then Some (opcodes.ByCall by_call.Unlock)
    else if n == 10 then Some (opcodes.ByNumber by_number.TypeInfo)
    else if n == 11 then Some (opcodes.Query queries.Objects)
    else if n == 12 then Some opcodes.Replace
    else None

-- The number at offset 4 of a body, which is its opcode.
abbrev pub opcode_at : List ℕ → ℕ
opcode_at body = little_number 2 (drop 4 body)

-- The number of bytes of the fields that are read before the first allocation: those before the names of a look-up, and
-- those before the lists of a call. 0 for an opcode whose fields have a fixed length, since decoding them allocates
-- nothing.
abbrev pub before_memory : Opcode → ℕ
before_memory opcodes.Create = 0
before_memory (opcodes.ByNumber kind) = 0
before_memory opcodes.GetIds = 48
before_memory (opcodes.ByCall kind) = 56
before_memory opcodes.GetElement = 56
before_memory opcodes.PutElement = 56
before_memory opcodes.Redimension = 56
before_memory (opcodes.Query query) = 0
before_memory opcodes.Replace = 0

-- As `before_memory`; 0 if there is no opcode.
abbrev pub some_before_memory : Option Opcode → ℕ
some_before_memory None = 0
some_before_memory (Some opcode) = before_memory opcode

-- As `before_memory`, of the opcode with this number.
abbrev pub opcode_before_memory : ℕ → ℕ
opcode_before_memory n = some_before_memory (opcode_named n)
