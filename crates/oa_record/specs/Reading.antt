-- Parsing a layout, as functions on lists. They agree with the forms of Layouts, as proofs/LayoutLaws proves. (This
-- project's choice.)
use Rattle.std.specs.Prelude.{◌≡◌, ℕ, ℤ, ◌+◌, ◌<◌, ◌≤◌, ◌&&◌, nat_le, List, length, Option, Some, None, Result, Ok, Err}
use Rattle.std.specs.Int.{w32, cast_signed}
use Rattle.oa_model.specs.promise.Limits.{max_arguments, max_dimensions, max_names}
use Rattle.oa_ndr.specs.promise.Reading.{Cursor, Decoder, ◌>>=◌, give, fail, bytes_at, many}
use Rattle.oa_ndr.specs.Reading.{choose, unit_at, align_at}
use Rattle.oa_model.specs.promise.Guids.{wire_order}
use Rattle.oa_model.specs.declared.bound.Bound.{Bound}
use Rattle.oa_wire_array.specs.ArrayReading.{bound_at}
use Rattle.oa_record.specs.promise.CallParts.{CallParts, ElementParts, PutParts, RedimParts}
use Rattle.oa_record.specs.promise.Layouts.{Layout}
use Rattle.oa_record.specs.promise.Opcodes.{opcode_named, opcode_at, opcode_before_memory, before_memory}
use Rattle.oa_record.specs.declared.opcode.Opcode.{Opcode}
use Rattle.oa_record.specs.declared.opcode.Opcode.TheVariants as opcodes
use Rattle.oa_record.specs.declared.request.CallHead.{CallHead}
use Rattle.oa_record.specs.declared.request.GetIds.{GetIds}
use Rattle.oa_record.specs.declared.fault.RecordFault.{RecordFault}
use Rattle.oa_record.specs.declared.fault.RecordFault.TheVariants.{Stub, BadVarType, Memory}

-- The result of the specification's parser if a call of the code fails: None after `Stub`, anything after `Memory`;
-- `BadVarType` does not occur.
abbrev pub ReadingFails : {Y : Type 0} → RecordFault → Option Y → Type 0
ReadingFails Stub read = read ≡ None
ReadingFails (BadVarType i) read = ⊥
ReadingFails Memory read = Unit {0}

-- A call of the code returns what the parser returns, seen through `view`, and moves the cursor as it does, unless
-- memory runs out.
abbrev pub ReadsBody : {X Y : Type 0} → (X → Y) → Result X RecordFault → Cursor → Option (Y × Cursor) → Type 0
ReadsBody view (Ok x) new read = read ≡ Some (view x, new)
ReadsBody view (Err e) new read = ReadingFails e read

-- As `ReadsBody`, for a call that allocates nothing.
abbrev pub ReadsFixed : {X Y E : Type 0} → (X → Y) → Result X E → Cursor → Option (Y × Cursor) → Type 0
ReadsFixed view (Ok x) new read = read ≡ Some (view x, new)
ReadsFixed view (Err e) new read = read ≡ None

-- As `ReadsBody`, for a call that reads the input to its end.
abbrev pub ReadsBodyToItsEnd : {X Y : Type 0} → (X → Y) → Result X RecordFault → Option Y → Type 0
ReadsBodyToItsEnd view (Ok x) read = read ≡ Some (view x)
ReadsBodyToItsEnd view (Err e) read = ReadingFails e read

-- The error `Memory` occurs only if at least `n` bytes are left at the start of the call.
abbrev pub FaultIsBehind : ℕ → RecordFault → Cursor → Type 0
FaultIsBehind n Stub s = Unit {0}
FaultIsBehind n (BadVarType i) s = Unit {0}
FaultIsBehind n Memory s = n ≤ length s.rest

-- `Ok` and `Memory` occur only if at least `n` bytes are left at the start of the call.
abbrev pub IsBehind : {X : Type 0} → ℕ → Result X RecordFault → Cursor → Type 0
IsBehind n (Ok x) s = n ≤ length s.rest
IsBehind n (Err e) s = FaultIsBehind n e s

-- The error `Memory` occurs only if the opcode needs memory, and the bytes before its first allocation are there.
abbrev pub IsStarved : RecordFault → Opcode → Cursor → Type 0
IsStarved Stub opcode s = Unit {0}
IsStarved (BadVarType i) opcode s = Unit {0}
IsStarved Memory opcode s = (0 < before_memory opcode) × (before_memory opcode ≤ length s.rest)

-- As `IsStarved`, for the result of a call.
abbrev pub StarvesAt : {X : Type 0} → Result X RecordFault → Opcode → Cursor → Type 0
StarvesAt (Ok x) opcode s = Unit {0}
StarvesAt (Err e) opcode s = IsStarved e opcode s

-- The error `Memory` occurs only if the opcode of the body needs memory, and the body has its 8 first bytes and those
-- before the first allocation.
abbrev pub IsStarvedBody : RecordFault → List ℕ → Type 0
IsStarvedBody Stub body = Unit {0}
IsStarvedBody (BadVarType i) body = Unit {0}
IsStarvedBody Memory body =
    (0 < opcode_before_memory (opcode_at body)) × (8 + opcode_before_memory (opcode_at body) ≤ length body)

-- As `IsStarvedBody`, for the result of a call.
abbrev pub Starves : {X : Type 0} → Result X RecordFault → List ℕ → Type 0
Starves (Ok x) body = Unit {0}
Starves (Err e) body = IsStarvedBody e body

unfoldable pub guid_at : Decoder (List ℕ)
guid_at = do
  bytes ← bytes_at 16
  give (wire_order bytes)

unfoldable pub dispid_at : Decoder ℤ
dispid_at = do
  x ← unit_at 4
  give (cast_signed w32 x)

unfoldable pub field_at : Decoder (List ℕ)
field_at = do
  n ← unit_at 4
  _ ← unit_at 4
  bytes ← bytes_at n
  _ ← align_at 8
  give bytes

-- A call's head with these fields.
abbrev pub head_of : ℕ → ℤ → List ℕ → List ℕ → ℕ → ℕ → CallHead
head_of object dispid interface riid lcid flags =
    record { object = object; dispid = dispid; interface = interface; riid = riid; lcid = lcid; flags = flags }

unfoldable pub call_head_at : Decoder CallHead
call_head_at = do
  object ← unit_at 4
  dispid ← dispid_at
  interface ← guid_at
  riid ← guid_at
  lcid ← unit_at 4
  flags ← unit_at 2
  _ ← unit_at 2
  give (head_of object dispid interface riid lcid flags)

-- A call with these parts.
abbrev pub parts_of : CallHead → List ℤ → List (List ℕ) → CallParts
parts_of head named fields = record { head = head; named = named; fields = fields }

-- Reads the lists of a call, after its counts.
unfoldable pub lists_at : CallHead → ℕ → ℕ → Decoder CallParts
lists_at head count named_count = do
  named ← many dispid_at named_count
  _ ← align_at 8
  fields ← many field_at count
  give (parts_of head named fields)

unfoldable pub call_at : Decoder CallParts
call_at = do
  head ← call_head_at
  count ← unit_at 4
  named_count ← unit_at 4
  choose (nat_le count max_arguments && nat_le named_count max_arguments) (lists_at head count named_count) fail

-- Reads the indices of an index list, after their number.
unfoldable pub index_list_at : ℕ → Decoder (List ℤ)
index_list_at count = do
  xs ← many dispid_at count
  _ ← align_at 8
  give xs

unfoldable pub indices_at : Decoder (List ℤ)
indices_at = do
  count ← unit_at 4
  _ ← unit_at 4
  choose (nat_le count max_dimensions) (index_list_at count) fail

abbrev pub parts_of_element : CallParts → List ℤ → ElementParts
parts_of_element call indices = record { call = call; indices = indices }

unfoldable pub element_at : Decoder ElementParts
element_at = do
  call ← call_at
  indices ← indices_at
  give (parts_of_element call indices)

abbrev pub put_of : ElementParts → List ℕ → PutParts
put_of element value = record { element = element; value = value }

unfoldable pub put_at : Decoder PutParts
put_at = do
  element ← element_at
  value ← field_at
  give (put_of element value)

abbrev pub redim_of : CallParts → Bound → RedimParts
redim_of call bound = record { call = call; bound = bound }

unfoldable pub redim_at : Decoder RedimParts
redim_at = do
  call ← call_at
  bound ← bound_at
  give (redim_of call bound)

-- Reads the units of a string.
unfoldable pub string_at : Decoder (List ℕ)
string_at = do
  n ← unit_at 4
  _ ← unit_at 4
  units ← many (unit_at 2) n
  _ ← align_at 8
  give units

abbrev pub ids_of : ℕ → List ℕ → List ℕ → ℕ → List (List ℕ) → GetIds
ids_of object interface riid lcid names =
    record { object = object; interface = interface; riid = riid; lcid = lcid; names = names }

-- Reads the names of a look-up, after their number.
unfoldable pub names_at : ℕ → List ℕ → List ℕ → ℕ → ℕ → Decoder GetIds
names_at object interface riid lcid count = do
  names ← many string_at count
  give (ids_of object interface riid lcid names)

unfoldable pub get_ids_at : Decoder GetIds
get_ids_at = do
  object ← unit_at 4
  _ ← unit_at 4
  interface ← guid_at
  riid ← guid_at
  lcid ← unit_at 4
  count ← unit_at 4
  choose (nat_le 1 count && nat_le count max_names) (names_at object interface riid lcid count) fail

-- Reads a number and a reserved one.
unfoldable pub number_at : Decoder ℕ
number_at = do
  n ← unit_at 4
  _ ← unit_at 4
  give n

-- Reads the fields of an opcode.
unfoldable pub fields_at : Opcode → Decoder Layout
fields_at opcodes.Create = do
  class ← guid_at
  give (Layout.CreateBody class)
fields_at (opcodes.ByNumber kind) = do
  number ← number_at
  give (Layout.NumberBody kind number)
fields_at opcodes.GetIds = do
  call ← get_ids_at
  give (Layout.GetIdsBody call)
fields_at (opcodes.ByCall kind) = do
  call ← call_at
  give (Layout.CallBody kind call)
fields_at opcodes.GetElement = do
  element ← element_at
  give (Layout.GetElementBody element)
fields_at opcodes.PutElement = do
  put ← put_at
  give (Layout.PutElementBody put)
fields_at opcodes.Redimension = do
  redim ← redim_at
  give (Layout.RedimensionBody redim)
fields_at (opcodes.Query query) = give (Layout.QueryBody query)
fields_at opcodes.Replace = fail

-- Reads the fields of an opcode; fails if there is no opcode.
unfoldable pub layout_by_opcode : Option Opcode → Decoder Layout
layout_by_opcode None = fail
layout_by_opcode (Some opcode) = fields_at opcode

-- Reads a whole body.
unfoldable pub layout_at : Decoder Layout
layout_at = do
  _ ← unit_at 4
  n ← unit_at 2
  _ ← unit_at 2
  layout_by_opcode (opcode_named n)
