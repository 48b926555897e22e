-- Which request a body encodes, and which error a body that encodes none has (this project's choice).
use Rattle.std.specs.Prelude.{◌≡◌, ◌⊎◌, ℕ, ◌+◌, ◌<◌, ◌≤◌, ◌==◌, nat_lt, if◌then◌else◌, List, [], ◌∷◌, ◌++◌, length}
use Rattle.std.specs.Prelude.{Option, Some, None}
use Rattle.std.specs.List.{AllByRecursion}
use Rattle.byteorder.specs.Endian.{little_number}
use Rattle.oa_model.specs.promise.Limits.{max_request_bytes}
use Rattle.oa_variant.specs.declared.variant.Variant.{Variant}
use Rattle.oa_wire_variant.specs.promise.Variants.{Spells, field_fault}
use Rattle.oa_wire_array.specs.declared.fault.WireFault.{WireFault}
use Rattle.oa_wire_array.specs.declared.fault.WireFault.TheVariants as faults
use Rattle.oa_record.specs.promise.CallParts.{CallParts}
use Rattle.oa_record.specs.promise.Layouts.{Layout, layout, variant_fields}
use Rattle.oa_record.specs.promise.Opcodes.{opcode_at, opcode_before_memory}
use Rattle.oa_record.specs.declared.opcode.Opcode.{Opcode}
use Rattle.oa_record.specs.declared.opcode.Opcode.TheVariants as opcodes
use Rattle.oa_record.specs.declared.request.Call.{Call}
use Rattle.oa_record.specs.declared.request.Request.{Request}
use Rattle.oa_record.specs.declared.request.Request.TheVariants.{Create, ByNumber, GetIds, ByCall, GetElement}
use Rattle.oa_record.specs.declared.request.Request.TheVariants.{PutElement, Redimension, Query}

-- The body has at most `max_request_bytes` and the layout `parts`.
pub record HasLayout (parts : Layout) (body : List ℕ) : Type 0 where
  pub short : length body ≤ max_request_bytes
  pub form : layout parts 0 body

-- The lists have the same length, and each field is an encoding of the value at its place.
abbrev pub AllSpell : List (List ℕ) → List Variant → Type 0
AllSpell [] [] = Unit {0}
AllSpell (f ∷ fs) (v ∷ vs) = Spells f v × AllSpell fs vs
AllSpell [] (v ∷ vs) = ⊥
AllSpell (f ∷ fs) [] = ⊥

-- The call with these values as its arguments.
abbrev pub call_of : CallParts → List Variant → Call
call_of c values = record { head = c.head; named = c.named; arguments = values }

-- Splits off the last value and passes both parts to `f`; None for no values.
abbrev pub split_last : List Variant → (List Variant → Variant → Option Request) → Option Request
split_last [] f = None
split_last (v ∷ []) f = f [] v
split_last (v ∷ w ∷ ws) f = split_last (w ∷ ws) (λ values last. f (v ∷ values) last)

-- The request of a layout whose variant fields have these values; None if a PUTELEM has no value.
abbrev pub request_of : Layout → List Variant → Option Request
request_of (Layout.CreateBody class) values = Some (Create class)
request_of (Layout.NumberBody kind number) values = Some (ByNumber kind number)
request_of (Layout.GetIdsBody call) values = Some (GetIds call)
request_of (Layout.CallBody kind call) values = Some (ByCall kind (call_of call values))
request_of (Layout.GetElementBody element) values = Some (GetElement (call_of element.call values) element.indices)
request_of (Layout.PutElementBody put) values =
    split_last values
    (λ arguments value. Some (PutElement (call_of put.element.call arguments) put.element.indices value))
request_of (Layout.RedimensionBody redim) values = Some (Redimension (call_of redim.call values) redim.bound)
request_of (Layout.QueryBody query) values = Some (Query query)

-- The opcode of a request.
abbrev pub request_opcode : Request → Opcode
request_opcode (Create class) = opcodes.Create
request_opcode (ByNumber kind number) = opcodes.ByNumber kind
request_opcode (GetIds call) = opcodes.GetIds
request_opcode (ByCall kind call) = opcodes.ByCall kind
request_opcode (GetElement call indices) = opcodes.GetElement
request_opcode (PutElement call indices value) = opcodes.PutElement
request_opcode (Redimension call bound) = opcodes.Redimension
request_opcode (Query query) = opcodes.Query query

-- The body encodes this request: it has some layout, whose variant fields encode some values, and these make the
-- request.
pub record Asks (body : List ℕ) (request : Request) : Type 0 where
  pub parts : Layout
  pub lies : HasLayout parts body
  pub values : List Variant
  pub spelled : AllSpell (variant_fields parts) values
  pub is : request_of parts values ≡ Some request

-- The field is an encoding of some value.
abbrev pub IsSpelled : List ℕ → Type 0
IsSpelled field = (v : Variant) × Spells field v

-- The field is an encoding of no value, for the reason `why`.
pub record SpellsNothing (field : List ℕ) (why : WireFault) : Type 0 where
  pub nothing : (v : Variant) → Spells field v → ⊥
  pub fault : field_fault field ≡ why

-- The field is an encoding of some value, or has a type outside the profile.
abbrev pub IsUnbroken : List ℕ → Type 0
IsUnbroken field = SpellsNothing field faults.BadStub → ⊥

-- Some field is broken: bad stub data.
pub record HasBroken (fields : List (List ℕ)) : Type 0 where
  pub front : List (List ℕ)
  pub field : List ℕ
  pub back : List (List ℕ)
  pub whole : fields ≡ front ++ field ∷ back
  pub broken : SpellsNothing field faults.BadStub

-- The field at `index` has a type outside the profile, all fields before it encode values, and no field after it is
-- broken.
pub record HasBadType (fields : List (List ℕ)) (index : ℕ) : Type 0 where
  pub front : List (List ℕ)
  pub field : List ℕ
  pub back : List (List ℕ)
  pub whole : fields ≡ front ++ field ∷ back
  pub place : length front ≡ index
  pub lowest : AllByRecursion IsSpelled front
  pub bad : SpellsNothing field faults.BadVarType
  pub unbroken : AllByRecursion IsUnbroken back

-- The body has no layout.
abbrev pub HasNoLayout : List ℕ → Type 0
HasNoLayout body = (parts : Layout) → HasLayout parts body → ⊥

-- The body has a layout, but some variant field is broken.
pub record IsBroken (body : List ℕ) : Type 0 where
  pub parts : Layout
  pub lies : HasLayout parts body
  pub broken : HasBroken (variant_fields parts)

-- The body is refused as bad stub data: it has no layout, or some variant field is broken.
abbrev pub IsStub : List ℕ → Type 0
IsStub body = HasNoLayout body ⊎ IsBroken body

-- The index that a refusal reports for the field at this place: its index in rgvarg. The new value of an element is not
-- an argument and has none.
abbrev pub field_index : Layout → ℕ → Option ℕ
field_index (Layout.CreateBody class) place = Some place
field_index (Layout.NumberBody kind number) place = Some place
field_index (Layout.GetIdsBody call) place = Some place
field_index (Layout.CallBody kind call) place = Some place
field_index (Layout.GetElementBody element) place = Some place
field_index (Layout.PutElementBody put) place = if place == length put.element.call.fields then None else Some place
field_index (Layout.RedimensionBody redim) place = Some place
field_index (Layout.QueryBody query) place = Some place

-- The body is refused as a bad type: it has a layout, no variant field is broken, and `index` is that of the first
-- field with a type outside the profile.
pub record IsBadVarType (body : List ℕ) (index : Option ℕ) : Type 0 where
  pub parts : Layout
  pub lies : HasLayout parts body
  pub place : ℕ
  pub bad : HasBadType (variant_fields parts) place
  pub named : index ≡ field_index parts place

-- The tag of a body; 0 if the body has fewer than 8 bytes.
abbrev pub tag_at : List ℕ → ℕ
tag_at body = if nat_lt (length body) 8 then 0 else little_number 4 body

-- The bodies for which decoding may run out of memory: the opcode needs memory, and the body contains the 8 bytes
-- before the fields and the fields before the first allocation, which is 56 bytes in all for a look-up of names and 64
-- for a call.
pub record MayStarve (body : List ℕ) : Type 0 where
  pub opcode : 0 < opcode_before_memory (opcode_at body)
  pub long : 8 + opcode_before_memory (opcode_at body) ≤ length body
  pub short : length body ≤ max_request_bytes
