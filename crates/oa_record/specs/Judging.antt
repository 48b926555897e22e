-- Decoding a list of fields: the values, or the first error. (This project's choice.)
use Rattle.std.specs.Prelude.{◌≡◌, ℕ, ◌<◌, ◌==◌, if◌then◌else◌, List, Option, Some, None, Result, Ok, Err}
use Rattle.std.specs.List.{AllByRecursion}
use Rattle.oa_variant.specs.declared.variant.Variant.{Variant}
use Rattle.oa_wire_array.specs.declared.fault.WireFault.TheVariants as faults
use Rattle.oa_record.specs.promise.Layouts.{Layout, opcode_of, variant_fields}
use Rattle.oa_record.specs.promise.Opcodes.{before_memory}
use Rattle.oa_record.specs.promise.Asks.{AllSpell, IsUnbroken, SpellsNothing, HasBroken, HasBadType, field_index}
use Rattle.oa_record.specs.promise.Asks.{request_of}
use Rattle.oa_record.specs.declared.request.Request.{Request}
use Rattle.oa_record.specs.declared.fault.RecordFault.{RecordFault}
use Rattle.oa_record.specs.declared.fault.RecordFault.TheVariants.{Stub, BadVarType, Memory}

-- The error of decoding these fields: some field is broken, or the first bad type is at this index. `Memory` is always
-- allowed.
abbrev pub RefusesFields : List (List ℕ) → RecordFault → Type 0
RefusesFields fields Stub = HasBroken fields
RefusesFields fields (BadVarType index) = (i : ℕ) × (index ≡ Some i) × HasBadType fields i
RefusesFields fields Memory = Unit {0}

-- The result of decoding these fields is right: the value of each, or an error that they have.
abbrev pub AnswersFields : {X : Type 0} → (X → List Variant) → List (List ℕ) → Result X RecordFault → Type 0
AnswersFields values fields (Ok x) = AllSpell fields (values x)
AnswersFields values fields (Err e) = RefusesFields fields e

-- The result of checking a field is right. A type outside the profile is no error here; `Memory` is always allowed.
abbrev pub TestsField : List ℕ → Result (Unit {0}) RecordFault → Type 0
TestsField field (Ok u) = IsUnbroken field
TestsField field (Err Stub) = SpellsNothing field faults.BadStub
TestsField field (Err (BadVarType index)) = ⊥
TestsField field (Err Memory) = Unit {0}

-- The result of checking all fields is right: `Ok` if none is broken, `Stub` if some is; `Memory` is always allowed.
abbrev pub TestsFields : List (List ℕ) → Result (Unit {0}) RecordFault → Type 0
TestsFields fields (Ok u) = AllByRecursion IsUnbroken fields
TestsFields fields (Err Stub) = HasBroken fields
TestsFields fields (Err (BadVarType index)) = ⊥
TestsFields fields (Err Memory) = Unit {0}

-- The request is that of the layout with values that its variant fields encode.
pub record TakesRequest (parts : Layout) (request : Request) : Type 0 where
  pub values : List Variant
  pub spelled : AllSpell (variant_fields parts) values
  pub is : request_of parts values ≡ Some request

-- No variant field of the layout is broken, and the first with a type outside the profile is reported with this index.
pub record MissesType (parts : Layout) (index : Option ℕ) : Type 0 where
  pub place : ℕ
  pub bad : HasBadType (variant_fields parts) place
  pub named : index ≡ field_index parts place

-- The result of decoding the values of a layout is right: its request, or the error of its values. `Memory` only if the
-- opcode needs memory.
abbrev pub Requests : Layout → Result Request RecordFault → Type 0
Requests parts (Ok request) = TakesRequest parts request
Requests parts (Err Stub) = HasBroken (variant_fields parts)
Requests parts (Err (BadVarType index)) = MissesType parts index
Requests parts (Err Memory) = 0 < before_memory (opcode_of parts)

-- The index in rgvarg for a place among the values of a PUTELEM with `count` arguments; None for the new value, which
-- follows them.
abbrev pub put_index : ℕ → Option ℕ → Option ℕ
put_index count None = None
put_index count (Some place) = if place == count then None else Some place

-- The error of a PUTELEM with `count` arguments, with the place of its value replaced by the index in rgvarg.
abbrev pub put_fault : ℕ → RecordFault → RecordFault
put_fault count Stub = Stub
put_fault count (BadVarType index) = BadVarType (put_index count index)
put_fault count Memory = Memory
