-- What reads of a bank's parts require, find and leave. (This project's choice.)
use Rattle.std.specs.Prelude.{◌≡◌, ℕ, ◌+◌, ◌<◌, ◌≤◌, true, IsTrue, List, length, take, slice_index}
use Rattle.oa_disk.specs.Disk.{HasBytesAt}
use Rattle.oa_disk.specs.declared.disk.Disk.{Ghosts}
use Rattle.oa_image.specs.promise.Tables.{is_numbered}
use Rattle.oa_table.specs.promise.Tables.{TableValue, unlocked_table}
use Rattle.oa_journal.specs.declared.ahead.DiskAhead.{DiskAhead}
use Rattle.oa_journal.specs.declared.shape.BankFormat.{BankFormat}
use Rattle.oa_journal.specs.promise.Bank.{from_place, AreGroups, HasLibrary, IsBank, IsGroupAt, Replays, ReplaysAll}
use Rattle.oa_journal.specs.promise.Bank.{body_bytes}

-- ---- what is required

-- the bytes that were read ahead are those of the disk
abbrev pub IsAhead : {D : Type 0} → Ghosts D → D → DiskAhead → Type 0
IsAhead g disk ahead =
    IsTrue (g.is_honest disk) → HasBytesAt (g.contents disk) ahead.from (take ahead.len ahead.buffer.items)

-- ---- what stays

-- The bytes that are read ahead were on the disk at the start; the buffer is as long as before.
pub record StaysAhead {D : Type 0} (g : Ghosts D) (old new : D) (before after : DiskAhead) : Type 0 where
  pub shown : IsTrue (g.is_honest new)
      → HasBytesAt (g.contents old) after.from (take after.len after.buffer.items)
  pub kept : length after.buffer.items ≡ length before.buffer.items

-- If a table is in order and without locks, it stays so.
pub record StaysStored (before after : TableValue) : Type 0 where
  pub numbered : is_numbered before ≡ true → is_numbered after ≡ true
  pub unlocked : unlocked_table before ≡ before → unlocked_table after ≡ after

-- ---- what is found

-- a table as a bank has it: the numbers of its objects rise, and no cell is locked
pub record IsStored (table : TableValue) : Type 0 where
  pub numbered : is_numbered table ≡ true
  pub unlocked : unlocked_table table ≡ table

-- The group after a gate of a body of that size, if the gate is open.
pub record FindsGroup {D : Type 0} (g : Ghosts D) (body size at : ℕ) (old new : D) (group : List ℕ) : Type 0 where
  pub found : IsTrue (g.is_honest new) → slice_index (g.contents old) (body + at) ≡ 1
      → IsGroupAt (from_place body (g.contents old)) at group
  pub inside : at + (5 + length group) < size
  pub some : 0 < length group

-- The group turns the old table into the new one, and the next gate comes after it.
pub record PassesGroup {D : Type 0} (g : Ghosts D) (body size at : ℕ) (before after : TableValue) (old new : D)
    (next : ℕ) : Type 0 where
  pub found : IsTrue (g.is_honest new) → slice_index (g.contents old) (body + at) ≡ 1
      → (group : List ℕ) × IsGroupAt (from_place body (g.contents old)) at group × Replays group before after
      × (next ≡ at + (5 + length group))
  pub inside : next < size
  pub nearer : at + 6 ≤ next

-- The groups from there on turn the first table into this one, up to the closed gate: two calls a group, and one more
-- for each gate. A group has at least six bytes with its gate.
pub record FindsGroups {D : Type 0} (g : Ghosts D) (body size from : ℕ) (first : TableValue) (old new : D)
    (table : TableValue) (gate : ℕ) : Type 0 where
  pub found : IsTrue (g.is_honest new) → (groups : List (List ℕ))
      × AreGroups (from_place body (g.contents old)) from groups gate × ReplaysAll groups first table
  pub stored : IsStored table
  pub inside : gate < size
  pub calls : IsTrue (g.is_honest new) → g.moment new + from ≤ g.moment old + (2 + gate)

-- The table of the bank with that head and that body, whichever library it begins with, and its closed gate: at most
-- two calls, and one for every two bytes of snapshot and groups.
pub record FindsTable {D : Type 0} (g : Ghosts D) (shape : BankFormat) (head body : ℕ) (old new : D)
    (table : TableValue)
    (gate : ℕ) : Type 0 where
  pub found : IsTrue (g.is_honest new) → (library : List ℕ)
      → HasLibrary shape (from_place head (g.contents old)) (from_place body (g.contents old)) library
      → IsBank shape (from_place head (g.contents old)) (from_place body (g.contents old)) library table gate
  pub stored : IsStored table
  pub inside : gate < body_bytes shape
  pub calls : IsTrue (g.is_honest new) → (library : List ℕ)
      → HasLibrary shape (from_place head (g.contents old)) (from_place body (g.contents old)) library
      → g.moment new + length library ≤ g.moment old + (4 + gate)
