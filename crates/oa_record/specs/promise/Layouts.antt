-- The layout of a request in its body (this project's choice). Opcodes with the same fields share a case of `Layout`,
-- `opcode_of`, `fields` and `variant_fields`. REPLACE LIBRARY has none: its text is borrowed (Replacement).
--
-- Each body is a tag of 4 bytes, the opcode in 2, 2 reserved bytes, and from the offset 8 on the opcode's own fields,
-- which fill the body exactly.
use Rattle.std.specs.Prelude.{◌≡◌, ℕ, ℤ, ◌≤◌, List, [], ◌∷◌, ◌++◌, length}
use Rattle.std.specs.Int.{w32, cast_signed}
use Rattle.oa_model.specs.promise.Limits.{max_arguments, max_dimensions, max_names}
use Rattle.oa_ndr.specs.promise.Forms.{Encoding, ◌▸◌, nothing, align, ignored, unit, exactly, with, given, each, made}
use Rattle.oa_model.specs.promise.Guids.{wire_order}
use Rattle.oa_wire_array.specs.promise.Arrays.{bound}
use Rattle.oa_record.specs.promise.CallParts.{CallParts, ElementParts, PutParts, RedimParts}
use Rattle.oa_record.specs.promise.Opcodes.{opcode_number}
use Rattle.oa_record.specs.declared.opcode.Opcode.{Opcode}
use Rattle.oa_record.specs.declared.opcode.Opcode.TheVariants as opcodes
use Rattle.oa_record.specs.declared.opcode.ByCall.{ByCall}
use Rattle.oa_record.specs.declared.opcode.ByNumber.{ByNumber}
use Rattle.oa_record.specs.declared.opcode.Query.{Query}
use Rattle.oa_record.specs.declared.request.CallHead.{CallHead}
use Rattle.oa_record.specs.declared.request.GetIds.{GetIds}

-- The parts of a body, with the bytes of its variant fields.
pub data Layout : Type 0 where
  CreateBody : (class : List ℕ) → Layout
  NumberBody : (kind : ByNumber) (number : ℕ) → Layout
  GetIdsBody : (call : GetIds) → Layout
  CallBody : (kind : ByCall) (call : CallParts) → Layout
  GetElementBody : (element : ElementParts) → Layout
  PutElementBody : (put : PutParts) → Layout
  RedimensionBody : (redim : RedimParts) → Layout
  QueryBody : (query : Query) → Layout

-- The opcode of a body with this layout.
abbrev pub opcode_of : Layout → Opcode
opcode_of (Layout.CreateBody class) = opcodes.Create
opcode_of (Layout.NumberBody kind number) = opcodes.ByNumber kind
opcode_of (Layout.GetIdsBody call) = opcodes.GetIds
opcode_of (Layout.CallBody kind call) = opcodes.ByCall kind
opcode_of (Layout.GetElementBody element) = opcodes.GetElement
opcode_of (Layout.PutElementBody put) = opcodes.PutElement
opcode_of (Layout.RedimensionBody redim) = opcodes.Redimension
opcode_of (Layout.QueryBody query) = opcodes.Query query

-- The fields that encode a value each: the arguments in the order of rgvarg, followed by the new value of an element.
abbrev pub variant_fields : Layout → List (List ℕ)
variant_fields (Layout.CreateBody class) = []
variant_fields (Layout.NumberBody kind number) = []
variant_fields (Layout.GetIdsBody call) = []
variant_fields (Layout.CallBody kind call) = call.fields
variant_fields (Layout.GetElementBody element) = element.call.fields
variant_fields (Layout.PutElementBody put) = put.element.call.fields ++ put.value ∷ []
variant_fields (Layout.RedimensionBody redim) = redim.call.fields
variant_fields (Layout.QueryBody query) = []

-- 16 bytes that are a GUID in wire order (MS-DTYP section 2.3.4.2).
abbrev pub guid : List ℕ → Encoding
guid = made wire_order (λ bytes. given (length bytes ≡ 16) ▸ exactly bytes)

-- A signed number of 32 bits, little-endian.
abbrev pub dispid : ℤ → Encoding
dispid z = with (unit 4) (λ x. given (z ≡ cast_signed w32 x))

-- A variant field: the number of bytes, a reserved number, the bytes, padding up to a multiple of 8.
abbrev pub field : List ℕ → Encoding
field bytes = unit 4 (length bytes) ▸ ignored 4 ▸ exactly bytes ▸ align 8

-- The head of a call: object, DISPID, interface, riid, lcid, flags, a reserved number (their meaning: MS-OAUT section
-- 3.1.4.4).
abbrev pub call_head : CallHead → Encoding
call_head h = unit 4 h.object ▸ dispid h.dispid ▸ guid h.interface ▸ guid h.riid ▸ unit 4 h.lcid ▸ unit 2 h.flags
    ▸ ignored 2 ▸ nothing

-- A call: its head, cArgs, cNamed, the DISPIDs of the named arguments, padding up to a multiple of 8, and the arguments
-- in the order of rgvarg.
abbrev pub call_parts : CallParts → Encoding
call_parts c =
    call_head c.head
    ▸ unit 4 (length c.fields) ▸ unit 4 (length c.named)
    ▸ given ((length c.fields ≤ max_arguments) × (length c.named ≤ max_arguments))
    ▸ each dispid c.named ▸ align 8 ▸ each field c.fields

-- An index list: the number of indices, a reserved number, the indices, padding up to a multiple of 8.
abbrev pub index_list : List ℤ → Encoding
index_list xs = unit 4 (length xs) ▸ ignored 4 ▸ given (length xs ≤ max_dimensions) ▸ each dispid xs ▸ align 8

-- A call that names an array, and the index list of an element.
abbrev pub element_parts : ElementParts → Encoding
element_parts e = call_parts e.call ▸ index_list e.indices

-- A call that names an array, the index list of an element, and the element's new value.
abbrev pub put_parts : PutParts → Encoding
put_parts p = element_parts p.element ▸ field p.value

-- A call that names an array, and its new first listed bound: cElements, lLbound (SAFEARRAYBOUND, MS-OAUT section
-- 2.2.30.1).
abbrev pub redim_parts : RedimParts → Encoding
redim_parts r = call_parts r.call ▸ bound r.bound

-- A string: the number of UTF-16 units, a reserved number, the units, padding up to a multiple of 8.
abbrev pub string : List ℕ → Encoding
string units = unit 4 (length units) ▸ ignored 4 ▸ each (unit 2) units ▸ align 8

-- A look-up of names: object, a reserved number, interface, riid, lcid, the number of names, the names (their meaning:
-- MS-OAUT section 3.1.4.3).
abbrev pub get_ids : GetIds → Encoding
get_ids g =
    unit 4 g.object ▸ ignored 4 ▸ guid g.interface ▸ guid g.riid ▸ unit 4 g.lcid
    ▸ unit 4 (length g.names) ▸ given ((1 ≤ length g.names) × (length g.names ≤ max_names)) ▸ each string g.names

-- A number and a reserved number.
abbrev pub number : ℕ → Encoding
number n = unit 4 n ▸ ignored 4 ▸ nothing

-- The fields of each opcode.
abbrev pub fields : Layout → Encoding
fields (Layout.CreateBody class) = guid class
fields (Layout.NumberBody kind n) = number n
fields (Layout.GetIdsBody call) = get_ids call
fields (Layout.CallBody kind call) = call_parts call
fields (Layout.GetElementBody element) = element_parts element
fields (Layout.PutElementBody put) = put_parts put
fields (Layout.RedimensionBody redim) = redim_parts redim
fields (Layout.QueryBody query) = nothing

-- A whole body: the tag, the opcode, a reserved number, the fields of the opcode.
abbrev pub layout : Layout → Encoding
layout parts = ignored 4 ▸ unit 2 (opcode_number (opcode_of parts)) ▸ ignored 2 ▸ fields parts
