-- A bank: its format, its head, its snapshot and its groups of log records.
use Rattle.std.specs.Prelude.{◌≡◌, ℕ, List, [], ◌∷◌, Result, Ok, Err, ◌+◌, ◌*◌, ◌≤◌, ◌≢◌, ◌<◌, ◌++◌, length}
use Rattle.std.specs.Prelude.{slice_index}
use Rattle.oa_table.specs.declared.event.Event.{Event}
use Rattle.oa_table.specs.declared.fault.TableFault.{TableFault}
use Rattle.oa_table.specs.promise.Events.{applied}
use Rattle.oa_table.specs.promise.Tables.{TableValue}
use Rattle.oa_formats.specs.promise.Answers.{IsRow}
use Rattle.oa_image.specs.promise.Events.{event}
use Rattle.oa_model.specs.promise.Limits.{group_bytes, max_event_bytes}
use Rattle.oa_journal.specs.declared.shape.BankFormat.{BankFormat}
use Rattle.oa_journal.specs.declared.shape.BankFormat.TheVariants.{One, Two}
use Rattle.std.specs.Int.{to_le_bytes, w32}
use Rattle.oa_image.specs.promise.Tables.{table, table_image}
use Rattle.oa_disk.specs.promise.Disk.{CrashInvariant}

-- How the bytes of groups change a table. (This project's choice.)

-- the table after the next step, if there is a table before it
abbrev pub followed : (TableValue → Result TableValue TableFault) → Result TableValue TableFault
    → Result TableValue TableFault
followed next (Ok table) = next table
followed next (Err fault) = Err fault

-- the table after events, in order, or why the first that does not apply is refused
abbrev pub applied_all : List Event → TableValue → Result TableValue TableFault
applied_all [] table = Ok table
applied_all (e ∷ es) table = followed (λ next. applied_all es next) (applied e table)

-- The bytes of a group are the encodings of events, one after the other, and these turn the old table into the new
-- one.
pub record Replays (group : List ℕ) (old new : TableValue) : Type 0 where
  pub events : List Event
  pub are : IsRow event group events
  pub makes : applied_all events old ≡ Ok new

-- groups, one after the other, turn the old table into the new one
abbrev pub ReplaysAll : List (List ℕ) → TableValue → TableValue → Type 0
ReplaysAll [] old new = old ≡ new
ReplaysAll (group ∷ groups) old new = (mid : TableValue) × Replays group old mid × ReplaysAll groups mid new

-- The two formats of a bank. They differ in the bytes of the head, in the size of the body, and in where a store has
-- the body. The contents of a body are the same in both. (This project's choice.)

-- the size of the body in bytes
abbrev pub body_bytes : BankFormat → ℕ
body_bytes One = 16777184
body_bytes (Two size) = size

-- the number of the format, as in the head
abbrev pub format_of : BankFormat → ℕ
format_of One = 1
format_of (Two size) = 2

-- the body's size as the head gives it
abbrev pub told_size : BankFormat → ℕ
told_size One = 0
told_size (Two size) = size

-- How many bytes of a disk format 1 uses: 8192 before its banks, and two banks of 32 and 16777184 bytes. The bodies
-- of format 2 come after all of that.
abbrev pub format_one_bytes : ℕ
format_one_bytes = 33562624

-- the least size of a disk that has two banks of this format
abbrev pub disk_bytes : BankFormat → ℕ
disk_bytes One = format_one_bytes
disk_bytes (Two size) = format_one_bytes + 2 * size

-- the least and the greatest number of bytes that a body of format 2 has
abbrev pub least_bank_bytes : ℕ
least_bank_bytes = 20971520

abbrev pub most_bank_bytes : ℕ
most_bank_bytes = 1073741824

-- a number that lies in the range of the sizes of format 2 exactly if the body's size is one of the format
abbrev pub measured : BankFormat → ℕ
measured One = least_bank_bytes
measured (Two size) = size

-- the body's size is one of the format
abbrev pub IsShape : BankFormat → Type 0
IsShape shape = (least_bank_bytes ≤ measured shape) × (measured shape ≤ most_bank_bytes)

-- A checkpoint is due if a body has fewer than this many bytes from its closed gate on: the largest group fits. Its
-- events have fewer bytes than `group_bytes` and one event more, and a gate and a length come before them.
abbrev pub ample_bytes : ℕ
ample_bytes = max_event_bytes + group_bytes + 5

-- The encoding of a bank: a library, a snapshot of a table, and groups of log records after gates, which turn the
-- snapshot's table into the bank's table. The journal treats the library as bytes. Bytes of head and body are given
-- as functions of their place. The format is this project's choice.

-- these are the bytes from this place on
abbrev pub Shows : (ℕ → ℕ) → ℕ → List ℕ → Type 0
Shows byte at bytes = (i : ℕ) → i < length bytes → byte (at + i) ≡ slice_index bytes i

-- the bytes of a disk, counted from a place
abbrev pub from_place : ℕ → List ℕ → ℕ → ℕ
from_place place disk i = slice_index disk (place + i)

-- "OAUTBK0" and the digit of the format, the number of the format, both lengths, a size and eight zeros, each number a
-- u32 in little-endian order: 32 bytes
unfoldable pub bank_head : ℕ → ℕ → ℕ → ℕ → List ℕ
bank_head format size library snapshot =
    79 ∷ 65 ∷ 85 ∷ 84 ∷ 66 ∷ 75 ∷ 48 ∷ (48 + format) ∷ format ∷ 0 ∷ 0 ∷ 0
    ∷ (to_le_bytes w32 library
    ++ (to_le_bytes w32 snapshot ++ (to_le_bytes w32 size ++ 0 ∷ 0 ∷ 0 ∷ 0 ∷ 0 ∷ 0 ∷ 0 ∷ 0 ∷ [])))

-- the head of a bank of this format; in format 1 it ends with twelve zeros
abbrev pub header_of : BankFormat → ℕ → ℕ → List ℕ
header_of shape library snapshot = bank_head (format_of shape) (told_size shape) library snapshot

-- An open gate at this place, a byte 1, followed by the group with its length. No group is empty.
pub record IsGroupAt (byte : ℕ → ℕ) (at : ℕ) (group : List ℕ) : Type 0 where
  pub opened : byte at ≡ 1
  pub count : Shows byte (at + 1) (to_le_bytes w32 (length group))
  pub events : Shows byte (at + 5) group
  pub some : 0 < length group

-- from this place on there are the groups, one after the other, and then, at `gate`, a gate that is not open
abbrev pub AreGroups : (ℕ → ℕ) → ℕ → List (List ℕ) → ℕ → Type 0
AreGroups byte at [] gate = (at ≡ gate) × (byte at ≢ 1)
AreGroups byte at (group ∷ groups) gate = IsGroupAt byte at group × AreGroups byte (at + (5 + length group)) groups gate

-- the bytes are a body of that size with these parts, and with its closed gate at this place
pub record IsLaidOut (size : ℕ) (byte : ℕ → ℕ) (library snapshot : List ℕ) (groups : List (List ℕ))
    (gate : ℕ) : Type 0 where
  pub text : Shows byte 0 library
  pub image : Shows byte (length library) snapshot
  pub behind : AreGroups byte (length library + length snapshot) groups gate
  pub inside : gate < size

-- The bank has this library and this table, which its groups make, one after the other, of the snapshot's table. Its
-- closed gate is at this place of the body.
pub record IsBank (shape : BankFormat) (head body : ℕ → ℕ) (library : List ℕ) (now : TableValue)
    (gate : ℕ) : Type 0 where
  pub known : IsShape shape
  pub first : TableValue
  pub is : table.Is first
  pub groups : List (List ℕ)
  pub header : Shows head 0 (header_of shape (length library) (length (table_image first)))
  pub parts : IsLaidOut (body_bytes shape) body library (table_image first) groups gate
  pub makes : ReplaysAll groups first now

-- the head of a bank of this format, whose body is large enough for parts of these lengths
pub record HasHeader (shape : BankFormat) (head : ℕ → ℕ) (library snapshot : ℕ) : Type 0 where
  pub known : IsShape shape
  pub header : Shows head 0 (header_of shape library snapshot)
  pub inside : library + snapshot < body_bytes shape

-- The bytes begin as a bank with this library; only the head and the library count.
pub record HasLibrary (shape : BankFormat) (head body : ℕ → ℕ) (library : List ℕ) : Type 0 where
  pub snapshot : ℕ
  pub has : HasHeader shape head (length library) snapshot
  pub text : Shows body 0 library

-- the head at that place of a disk that is large enough for two banks of its format
pub record HasHead (shape : BankFormat) (place : ℕ) (disk : List ℕ) (library snapshot : ℕ) : Type 0 where
  pub room : disk_bytes shape ≤ length disk
  pub has : HasHeader shape (from_place place disk) library snapshot

-- A bank without groups. (This project's choice.)

-- the place at which the groups begin
abbrev pub start_of : List ℕ → List ℕ → ℕ
start_of library snapshot = length library + length snapshot

-- The place of a bank's first gate, and in what two readings of one bank agree. (This project's choice.)

-- the place of the first gate
abbrev pub first_gate : List ℕ → TableValue → ℕ
first_gate library now = start_of library (table_image now)

-- Calls that write nothing. (This project's choice.)

-- At each point in time of the calls, each image is one of those at their start.
pub record WritesNothing {D : Type 0} (image : D → List ℕ → Type 0) (moment : D → ℕ)
    (image_since : D → ℕ → List ℕ → Type 0)
    (old new : D) : Type 0 where
  pub images : (c : List ℕ) → image new c → image old c
  pub moments : CrashInvariant moment image_since old new (image old)
