-- What the calls of a bank on a disk return. (This project's choice.)
use Rattle.std.specs.Prelude.{◌≡◌, ◌↔◌, ℕ, ◌+◌, ◌^◌, ◌≤◌, ◌<◌, IsTrue, true, false, List, length, Result, OnOk, OnErr}
use Rattle.std.specs.Prelude.{IfErr, IsErrOf}
use Rattle.oa_disk.specs.Disk.{HasBytesAt, LeavesStep}
use Rattle.oa_disk.specs.declared.disk.DeviceFault.{DeviceFault}
use Rattle.oa_disk.specs.declared.disk.DeviceFault.TheVariants.{Read}
use Rattle.oa_disk.specs.declared.disk.Disk.{Ghosts}
use Rattle.oa_image.specs.promise.Tables.{is_numbered}
use Rattle.oa_journal.specs.Append.{IsAt, TornBank}
use Rattle.oa_journal.specs.promise.Bank.{from_place, HasHead, HasLibrary, IsBank, first_gate, body_bytes, disk_bytes}
use Rattle.oa_journal.specs.promise.Bank.{IsShape}
use Rattle.oa_journal.specs.promise.Damages.{IsDamagedHead}
use Rattle.oa_journal.specs.Replies.{IsCausedBankFault}
use Rattle.oa_journal.specs.declared.bank.AppendFault.{AppendFault}
use Rattle.oa_journal.specs.declared.bank.AppendFault.TheVariants as appends
use Rattle.oa_journal.specs.declared.bank.Bank.{Bank}
use Rattle.oa_journal.specs.declared.bank.BankFault.{BankFault}
use Rattle.oa_journal.specs.declared.bank.BankFault.TheVariants.{Damaged, Device, Memory}
use Rattle.oa_journal.specs.declared.head.BankHead.{BankHead}
use Rattle.oa_table.specs.promise.Tables.{TableValue, unlocked_table}

-- head and body lie on a disk of this size
pub record LiesWithin (size : ℕ) (bank : Bank) : Type 0 where
  pub head : bank.head + 32 ≤ size
  pub body : bank.body + body_bytes bank.shape ≤ size

-- a body of this many bytes lies at that place of a disk of this size
pub record BodyWithin (size place bytes : ℕ) : Type 0 where
  pub inside : place + bytes ≤ size
  pub on_a_disk : place + bytes < 2 ^ 63

-- and the head lies within the disk, too
pub record PartsWithin (size head place bytes : ℕ) : Type 0 where
  pub head_inside : head + 32 ≤ size
  pub body : BodyWithin size place bytes

-- The bank is written with a library and a table, and without groups.
pub record WritesBank {D T E : Type 0} (g : Ghosts D) (bank : Bank) (library : List ℕ) (table : TableValue)
    (old new : D)
    (result : Result T E) : Type 0 where
  pub any_moment : IsTrue (g.is_honest old)
      → LeavesStep g.moment g.image_since g.image old new (TornBank bank.head bank.body (body_bytes bank.shape))
  -- at `Ok` a read returns the new bank
  pub written : OnOk result (IsTrue (g.is_honest old)
      → IsBank bank.shape (from_place bank.head (g.contents new)) (from_place bank.body (g.contents new))
      library (unlocked_table table) (first_gate library table))
  pub others : IsTrue (g.is_honest old)
      → TornBank bank.head bank.body (body_bytes bank.shape) (g.contents old) (g.contents new)

-- A head is written, and these bytes from the place of a body on.
pub record LaysOut {D T E : Type 0} (g : Ghosts D) (head body size : ℕ) (header bytes : List ℕ) (old new : D)
    (result : Result T E) : Type 0 where
  pub any_moment : IsTrue (g.is_honest old)
      → LeavesStep g.moment g.image_since g.image old new (TornBank head body size)
  pub written : OnOk result (IsTrue (g.is_honest old)
      → HasBytesAt (g.contents new) head header × HasBytesAt (g.contents new) body bytes)
  pub others : IsTrue (g.is_honest old) → TornBank head body size (g.contents old) (g.contents new)

-- The bank knows that its closed gate is at this place, or has stopped.
pub record MovesGate {T E : Type 0} (gate : ℕ) (old new : Bank) (result : Result T E) : Type 0 where
  pub moved : OnOk result (IsAt old.shape old.head old.body gate old.stopped new)
  pub stopped : OnErr result (IsAt old.shape old.head old.body old.gate true new)

-- Why a bank could not be read: it is damaged in this way at a place, or an allocation or the device failed. After a
-- fault of the device the bank has stopped.
pub record RefusesBank {D T : Type 0} (g : Ghosts D) (damage : ℕ → Type 0) (before after : Bank) (old new : D)
    (result : Result T BankFault) : Type 0 where
  pub damaged : (at : ℕ) → IsErrOf result (Damaged at) → (after ≡ before) × (IsTrue (g.is_honest new) → damage at)
  pub memory : IsErrOf result Memory → after ≡ before
  pub device : (fault : DeviceFault) → IsErrOf result (Device fault)
      → IsAt before.shape before.head before.body before.gate true after × (fault ≡ Read)
  pub cause : IfErr result (IsCausedBankFault (g.failures_of old) (g.failures_of new))

-- The bank was read: this library, and this table after its groups. It knows its closed gate, and is otherwise
-- unchanged.
pub record ReadsBank {D : Type 0} (g : Ghosts D) (before after : Bank) (old new : D) (library : List ℕ)
    (table : TableValue) : Type 0 where
  pub found : IsTrue (g.is_honest new) → IsBank before.shape (from_place before.head (g.contents old))
      (from_place before.body (g.contents old)) library table after.gate
  pub numbered : is_numbered table ≡ true
  pub unlocked : unlocked_table table ≡ table
  pub bank : IsAt before.shape before.head before.body after.gate before.stopped after
  -- at most four calls, and one for every two bytes of snapshot and groups
  pub calls : IsTrue (g.is_honest new) → g.moment new + length library ≤ g.moment old + (8 + after.gate)

-- The bank's table was read, after its groups, for the library with which the bank begins. The bank knows its closed
-- gate, and is otherwise unchanged.
pub record ReadsTable {D : Type 0} (g : Ghosts D) (before after : Bank) (old new : D)
    (table : TableValue) : Type 0 where
  pub found : IsTrue (g.is_honest new) → (library : List ℕ) → HasLibrary before.shape
      (from_place before.head (g.contents old)) (from_place before.body (g.contents old)) library
      → IsBank before.shape (from_place before.head (g.contents old)) (from_place before.body (g.contents old))
      library table after.gate
  pub numbered : is_numbered table ≡ true
  pub unlocked : unlocked_table table ≡ table
  pub bank : IsAt before.shape before.head before.body after.gate before.stopped after
  -- at most two calls, and one for every two bytes of snapshot and groups
  pub calls : IsTrue (g.is_honest new) → (library : List ℕ) → HasLibrary before.shape
      (from_place before.head (g.contents old)) (from_place before.body (g.contents old)) library
      → g.moment new + length library ≤ g.moment old + (4 + after.gate)

-- The head of a bank is at this place, and the disk is large enough for two such banks.
pub record FindsHead {D : Type 0} (g : Ghosts D) (place : ℕ) (old new : D) (head : BankHead) : Type 0 where
  pub found : IsTrue (g.is_honest new) → HasHead head.shape place (g.contents old) head.library head.snapshot
  pub known : IsShape head.shape × (head.library + head.snapshot < body_bytes head.shape)
  pub room : disk_bytes head.shape ≤ g.size_of old

-- There is no head at this place. Nothing was allocated.
pub record RefusesHead {D T : Type 0} (g : Ghosts D) (place : ℕ) (old new : D)
    (result : Result T BankFault) : Type 0 where
  pub damaged : (at : ℕ) → IsErrOf result (Damaged at)
      → (at ≡ place) × (IsTrue (g.is_honest new) → IsDamagedHead place (g.contents old))
  pub memory : IsErrOf result Memory → ⊥
  pub device : (fault : DeviceFault) → IsErrOf result (Device fault) → fault ≡ Read
  pub cause : IfErr result (IsCausedBankFault (g.failures_of old) (g.failures_of new))

-- The group of a batch does not fit, or the bank has stopped: nothing has changed.
pub record RefusesGroup {D T : Type 0} (batch : List ℕ) (before after : Bank) (old new : D)
    (result : Result T AppendFault) : Type 0 where
  pub full : IsErrOf result appends.Full
      ↔ ((before.stopped ≡ false) × (body_bytes before.shape ≤ before.gate + length batch))
  pub full_same : IsErrOf result appends.Full → (new ≡ old) × (after ≡ before)
  pub stopped : IsErrOf result appends.Stopped ↔ (before.stopped ≡ true)
  pub stopped_same : IsErrOf result appends.Stopped → (new ≡ old) × (after ≡ before)
