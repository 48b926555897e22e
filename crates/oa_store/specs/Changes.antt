-- Definitions for contracts and proofs, beside promise/Changes.
use Rattle.std.specs.Prelude.{◌≡◌, ◌≢◌, ◌⊎◌, ℕ, ◌+◌, ◌-◌, ◌≤◌, List, length, slice_index}
use Rattle.oa_disk.specs.promise.Disk.{Torn}
use Rattle.oa_table.specs.promise.Tables.{TableValue}
use Rattle.oa_table.specs.Tables.{first_table}
use Rattle.oa_journal.specs.declared.shape.BankFormat.{BankFormat}
use Rattle.oa_journal.specs.declared.shape.BankFormat.TheVariants.{One, Two}
use Rattle.oa_journal.specs.promise.Bank.{Replays, disk_bytes, from_place, IsBank, first_gate}
use Rattle.oa_store.specs.promise.Stores.{body_place, head_place, IsStoreAt}

-- the old store, with the group or without it
abbrev pub IsCommit : BankFormat → ℕ → ℕ → List ℕ → List ℕ → List ℕ → Type 0
IsCommit shape chosen gate group old new =
    (library : List ℕ) (table after : TableValue) → IsStoreAt shape chosen gate library table old
    → Replays group table after
    → IsStoreAt shape chosen gate library table new
    ⊎ IsStoreAt shape chosen (gate + (5 + length group)) library after new

-- the old store with the group
abbrev pub IsCommitted : BankFormat → ℕ → ℕ → List ℕ → List ℕ → List ℕ → Type 0
IsCommitted shape chosen gate group old new =
    (library : List ℕ) (table after : TableValue) → IsStoreAt shape chosen gate library table old
    → Replays group table after
    → IsStoreAt shape chosen (gate + (5 + length group)) library after new

-- The old store, in this bank; or in the other bank a store of this library and this table, with its closed gate at
-- the given place. The other bank may have another format.
abbrev pub IsReplacement : BankFormat → ℕ → ℕ → BankFormat → ℕ → List ℕ → List ℕ → TableValue → List ℕ → List ℕ → Type 0
IsReplacement shape chosen gate other next library text table old new = IsStoreAt shape chosen gate library table old
    → IsStoreAt shape chosen gate library table new ⊎ IsStoreAt other (1 - chosen) next text table new

-- the latter of the two
abbrev pub IsReplaced : BankFormat → ℕ → ℕ → BankFormat → ℕ → List ℕ → List ℕ → TableValue → List ℕ → List ℕ → Type 0
IsReplaced shape chosen gate other next library text table old new = IsStoreAt shape chosen gate library table old
    → IsStoreAt other (1 - chosen) next text table new

-- the old store, or in the other bank one of the old library and this table
abbrev pub IsSwitch : BankFormat → ℕ → ℕ → BankFormat → ℕ → List ℕ → TableValue → List ℕ → List ℕ → Type 0
IsSwitch shape chosen gate other next library table old new =
    IsReplacement shape chosen gate other next library library table old new

abbrev pub IsSwitched : BankFormat → ℕ → ℕ → BankFormat → ℕ → List ℕ → TableValue → List ℕ → List ℕ → Type 0
IsSwitched shape chosen gate other next library table old new =
    IsReplaced shape chosen gate other next library library table old new

-- a bank of format 2 with bodies of this size may replace one of format 1, and one of its own format
abbrev pub MayFollow : ℕ → BankFormat → Type 0
MayFollow size shape = (shape ≡ One) ⊎ (shape ≡ Two size)

-- a switch to the other bank in format 2 with this library, from any bank that it may replace
abbrev pub IsMove : ℕ → ℕ → ℕ → List ℕ → TableValue → List ℕ → List ℕ → Type 0
IsMove chosen size next text table old new = (shape : BankFormat) (gate : ℕ) (library : List ℕ) → MayFollow size shape
    → IsReplacement shape chosen gate (Two size) next library text table old new

abbrev pub IsMoved : ℕ → ℕ → ℕ → List ℕ → TableValue → List ℕ → List ℕ → Type 0
IsMoved chosen size next text table old new = (shape : BankFormat) (gate : ℕ) (library : List ℕ) → MayFollow size shape
    → IsReplaced shape chosen gate (Two size) next library text table old new

-- not formatted, or a new store without objects
abbrev pub IsNoneOrFirst : ℕ → List ℕ → List ℕ → Type 0
IsNoneOrFirst size library image =
    (slice_index image 0 ≢ 1) ⊎ IsStoreAt (Two size) 0 (first_gate library first_table) library first_table image

-- an old image except for its first byte, or one that is not formatted, or the first store of this library
abbrev pub IsFormatting : ℕ → (List ℕ → Type 0) → List ℕ → List ℕ → Type 0
IsFormatting size before library image = ((d : List ℕ) × before d × Torn 0 1 d image) ⊎ IsNoneOrFirst size library image

-- the bank of number 0, without groups, and the selector that names it
pub record HasBank (size : ℕ) (library : List ℕ) (table : TableValue) (gate : ℕ) (image : List ℕ) : Type 0 where
  pub size_is : disk_bytes (Two size) ≤ length image
  pub bank : IsBank (Two size) (from_place (head_place 0) image)
      (from_place (body_place (Two size) 0) image) library table gate
  pub selector : slice_index image 4096 ≡ 0
