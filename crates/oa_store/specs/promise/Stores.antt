-- A store on a disk, and how many calls of the disk its functions make.
use Rattle.std.specs.Prelude.{ℕ, ◌+◌, List, ◌≡◌, ◌≢◌, ◌⊎◌, ◌*◌, ◌%◌, ◌<◌, ◌≤◌, length, slice_index}
use Rattle.std.specs.Int.{div_ceil}
use Rattle.oa_table.specs.promise.Tables.{TableValue}
use Rattle.oa_journal.specs.promise.Bank.{first_gate, disk_bytes, format_one_bytes, from_place, IsBank}
use Rattle.oa_journal.specs.declared.shape.BankFormat.{BankFormat}
use Rattle.oa_journal.specs.declared.shape.BankFormat.TheVariants.{One, Two}

-- How many calls of the disk a store makes. (This project's choice.)

-- how many bytes of a body are written at once, except the last piece
abbrev pub piece_bytes : ℕ
piece_bytes = 65536

-- the number of pieces of a body with this library, this table and a closed gate
abbrev pub piece_count : List ℕ → TableValue → ℕ
piece_count library table = div_ceil (1 + first_gate library table) piece_bytes

-- a checkpoint: the head, the pieces of the body, a sync, the selector and a sync
abbrev pub checkpoint_calls : List ℕ → TableValue → ℕ
checkpoint_calls library table = 4 + piece_count library table

-- the most calls of a checkpoint on banks with bodies of this size, whatever it writes
abbrev pub most_checkpoint_calls : ℕ → ℕ
most_checkpoint_calls bank = 4 + div_ceil bank piece_bytes

-- What it means that the bytes of a disk are a store, in either format. The layout is this project's choice.

-- the least size of a disk that has a store
abbrev pub store_bytes : ℕ
store_bytes = format_one_bytes

-- the place of a bank's head, in either format: of bank 0, and of bank 1
abbrev pub head_place : ℕ → ℕ
head_place chosen = 8192 + chosen * 16777216

-- the place of its body: in format 1 after the head, in format 2 after all of format 1
abbrev pub body_place : BankFormat → ℕ → ℕ
body_place One chosen = 8224 + chosen * 16777216
body_place (Two size) chosen = format_one_bytes + chosen * size

-- The image has at least the size of a store, its first byte says that it is formatted, and its selector names this
-- bank by its parity.
pub record IsFormatted (chosen : ℕ) (image : List ℕ) : Type 0 where
  pub size : store_bytes ≤ length image
  pub formatted : slice_index image 0 ≡ 1
  pub selected : slice_index image 4096 % 2 ≡ chosen

-- It is formatted and large enough for two banks of this format, and the bank that the selector names has this
-- library and this table, with its closed gate at this place.
pub record IsStoreAt (shape : BankFormat) (chosen gate : ℕ) (library : List ℕ) (table : TableValue)
    (image : List ℕ) : Type 0 where
  pub head : IsFormatted chosen image
  pub room : disk_bytes shape ≤ length image
  pub bank : IsBank shape (from_place (head_place chosen) image)
      (from_place (body_place shape chosen) image) library table gate

-- a store of this format, this library and this table
abbrev pub IsStoreIn : BankFormat → List ℕ → List ℕ → TableValue → Type 0
IsStoreIn shape image library table = (chosen : ℕ) × (gate : ℕ) × IsStoreAt shape chosen gate library table image

-- a store of this library and this table, in either format
abbrev pub IsStore : List ℕ → List ℕ → TableValue → Type 0
IsStore image library table = (shape : BankFormat) × IsStoreIn shape image library table

-- it is too small for a store, or it is not formatted
abbrev pub IsForeign : ℕ → List ℕ → Type 0
IsForeign size image = (size < store_bytes) ⊎ (slice_index image 0 ≢ 1)
