-- A store with the log records of an open group.
use Rattle.std.specs.Prelude.{◌⊎◌, ℕ, IsTrue, List, ◌≡◌, false, length}
use Rattle.oa_disk.specs.declared.disk.Disk.{Ghosts}
use Rattle.oa_disk.specs.promise.Disk.{CrashInvariant}
use Rattle.oa_journal.specs.declared.shape.BankFormat.{BankFormat}
use Rattle.oa_store.specs.promise.Stores.{IsStoreAt, IsStoreIn}
use Rattle.oa_store.specs.declared.store.Store.{Store}
use Rattle.oa_table.specs.promise.Tables.{TableValue}
use Rattle.oa_journal.specs.promise.Bank.{Replays}
use Rattle.oa_store.specs.promise.Writing.{CallsForOneCheckpoint}

-- A disk with a store of a table: of its library, and of the table without its locks. (This project's choice.)

-- each image is a store of this library and this table, in this bank
abbrev pub EachIs : (List ℕ → Type 0) → BankFormat → ℕ → ℕ → List ℕ → TableValue → Type 0
EachIs image shape chosen gate library held = (c : List ℕ) → image c → IsStoreAt shape chosen gate library held c

-- its disk is honest, and each image of it is a store of this table
abbrev pub AllHold : {D : Type 0} {g : Ghosts D} → Store D g → TableValue → Type 0
AllHold {D} {g} store held =
    IsTrue (g.is_honest store.disk)
    × EachIs (g.image store.disk) store.bank.shape store.chosen store.bank.gate store.library.items held

-- a crash at any point in time of a call leaves a store of this table, with the same format and library
abbrev pub LeavesTable : {D : Type 0} {g : Ghosts D} → Store D g → Store D g → TableValue → Type 0
LeavesTable {D} {g} old new held =
    CrashInvariant g.moment g.image_since old.disk new.disk (λ c. IsStoreIn old.bank.shape c old.library.items held)

-- or of one of two tables
abbrev pub LeavesEither : {D : Type 0} {g : Ghosts D} → Store D g → Store D g → TableValue → TableValue → Type 0
LeavesEither {D} {g} old new before after =
    CrashInvariant g.moment g.image_since old.disk new.disk
    (λ c. IsStoreIn old.bank.shape c old.library.items before ⊎ IsStoreIn old.bank.shape c old.library.items after)

-- Invariants while events are held, and commits. (This project's choice.)

-- Images are stores of this table: the one in memory if the batch has no event, otherwise the one before its first
-- event.
abbrev pub IsLastCommitted : List ℕ → TableValue → TableValue → Type 0
IsLastCommitted batch held committed = length batch ≡ 0 → held ≡ committed

-- A crash at any point in time of a call leaves what was committed before it.
abbrev pub LeavesCommitted : {D : Type 0} {g : Ghosts D} → List ℕ → TableValue → Store D g → Store D g → Type 0
LeavesCommitted batch held old new =
    (committed : TableValue) → IsLastCommitted batch held committed → AllHold old committed
    → LeavesTable old new committed

-- After the call each image is a store of what was committed before it.
abbrev pub KeepsCommitted : {D : Type 0} {g : Ghosts D} → List ℕ → TableValue → Store D g → Store D g → Type 0
KeepsCommitted batch held old new =
    (committed : TableValue) → IsLastCommitted batch held committed → AllHold old committed → AllHold new committed

-- A call keeps what was committed, with the same library, and makes at most one checkpoint.
pub record PreservesCommitted {D : Type 0} {g : Ghosts D} (batch : List ℕ) (held : TableValue)
    (old new : Store D g) : Type 0 where
  pub any_moment : LeavesCommitted batch held old new
  pub each : new.stopped ≡ false → KeepsCommitted batch held old new
  pub library : new.library.items ≡ old.library.items
  pub once : CallsForOneCheckpoint old new

-- An atomic commit: whichever table the images are stores of, and whatever the events of the batch make of it, a
-- crash leaves one or the other, and a store that has not stopped has the latter.
pub record CommitsAtomically {D : Type 0} {g : Ghosts D} (batch : List ℕ) (old new : Store D g) : Type 0 where
  pub any_moment : (committed now : TableValue) → Replays batch committed now → AllHold old committed
      → LeavesEither old new committed now
  pub each : new.stopped ≡ false → (committed now : TableValue) → Replays batch committed now → AllHold old committed
      → AllHold new now
  pub library : new.library.items ≡ old.library.items
