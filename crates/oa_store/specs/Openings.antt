-- What an opening and an inspection of a disk return. Everything but what is in memory is stated of a disk that is
-- honest at the end. (This project's choice.)
use Rattle.std.specs.Prelude.{◌≡◌, ℕ, ◌+◌, ◌<◌, ◌≤◌, IsTrue, true, false, List, length, Option, Some, None}
use Rattle.oa_disk.specs.promise.Disk.{Only}
use Rattle.oa_disk.specs.declared.disk.Disk.{Ghosts}
use Rattle.oa_image.specs.promise.Tables.{is_numbered}
use Rattle.oa_journal.specs.Append.{IsAt}
use Rattle.oa_journal.specs.promise.Bank.{from_place, HasHead, IsBank, body_bytes, disk_bytes, IsShape}
use Rattle.oa_journal.specs.ReadCalls.{IsStored}
use Rattle.oa_journal.specs.declared.head.BankHead.{BankHead}
use Rattle.oa_journal.specs.declared.shape.BankFormat.{BankFormat}
use Rattle.oa_journal.specs.declared.shape.BankFormat.TheVariants.{Two}
use Rattle.oa_store.specs.promise.Stores.{piece_bytes, body_place, head_place, store_bytes, IsFormatted, IsForeign}
use Rattle.oa_store.specs.promise.Stores.{IsStore, IsStoreAt}
use Rattle.oa_store.specs.declared.fault.FindFault.{FindFault}
use Rattle.oa_store.specs.declared.fault.OpenFault.{OpenFault}
use Rattle.oa_store.specs.declared.fault.OpenFault.TheVariants.{LibraryDiffers, OldFormat}
use Rattle.oa_store.specs.declared.reading.Found.{Found}
use Rattle.oa_store.specs.declared.store.Store.{Store}
use Rattle.oa_store.specs.Faults.{of_finding, HeadSays}
use Rattle.oa_store.specs.promise.Faults.{IsCausedOpenFault, ComesOfForeign, SpeaksOfContents, RefusalSays, DeviceTells}
use Rattle.oa_store.specs.promise.Faults.{moments_until}
use Rattle.oa_store.specs.Stores.{IsNewStore}
use Rattle.oa_table.specs.promise.Tables.{TableValue, unlocked_table}

-- The disk is formatted, and its selector names this bank. Nothing is pending.
pub record FindsFormatted {D : Type 0} (g : Ghosts D) (chosen : ℕ) (old new : D) : Type 0 where
  pub found : IsTrue (g.is_honest new) → IsFormatted chosen (g.contents old)
  pub two : chosen < 2
  pub big : store_bytes ≤ g.size_of old
  pub synced : IsTrue (g.is_honest new) → Only (g.contents old) (g.image new)
  pub contents : IsTrue (g.is_honest new) → g.contents new ≡ g.contents old

-- The disk is not formatted, or the device has failed a call.
pub record RefusesFormatted {D : Type 0} (g : Ghosts D) (old new : D) (fault : FindFault) : Type 0 where
  pub says : IsTrue (g.is_honest new) → HeadSays (g.size_of old) (g.contents old) fault
  pub early : ComesOfForeign (of_finding fault)
  pub cause : IsCausedOpenFault (g.failures_of old) (g.failures_of new) (of_finding fault)
  pub tells : IsTrue (g.is_honest new) → DeviceTells (g.contents old) (g.image old) (g.image new) (of_finding fault)
  -- at most two calls if the disk is not formatted: its selector is not read then
  pub until : IsTrue (g.is_honest new) → g.moment new ≤ g.moment old + moments_until 6 (of_finding fault)

-- The bank that the selector of a disk names was found, with its head. Nothing is pending.
pub record FindsChosen {D : Type 0} (g : Ghosts D) (chosen : ℕ) (head : BankHead) (old new : D) : Type 0 where
  pub found : IsTrue (g.is_honest new) → IsFormatted chosen (g.contents old)
      × HasHead head.shape (head_place chosen) (g.contents old) head.library head.snapshot
  pub two : chosen < 2
  pub known : IsShape head.shape
  pub room : disk_bytes head.shape ≤ g.size_of old
  pub big : store_bytes ≤ g.size_of old
  pub synced : IsTrue (g.is_honest new) → Only (g.contents old) (g.image new)
  pub contents : IsTrue (g.is_honest new) → g.contents new ≡ g.contents old

-- The bank that the selector names was not found.
pub record RefusesChosen {D : Type 0} (g : Ghosts D) (old new : D) (fault : FindFault) : Type 0 where
  pub says : IsTrue (g.is_honest new) → HeadSays (g.size_of old) (g.contents old) fault
  pub early : IsTrue (g.is_honest new) → IsForeign (g.size_of old) (g.contents old) → ComesOfForeign (of_finding fault)
  pub cause : IsCausedOpenFault (g.failures_of old) (g.failures_of new) (of_finding fault)
  pub tells : IsTrue (g.is_honest new) → DeviceTells (g.contents old) (g.image old) (g.image new) (of_finding fault)

-- The bank with that head and that body has this library and this table, and its closed gate is there: at most four
-- calls, and one for every two bytes of snapshot and groups.
pub record FindsBank {D : Type 0} (g : Ghosts D) (shape : BankFormat) (head body : ℕ) (old new : D) (library : List ℕ)
    (table : TableValue) (gate : ℕ) : Type 0 where
  pub found : IsTrue (g.is_honest new)
      → IsBank shape (from_place head (g.contents old)) (from_place body (g.contents old)) library table gate
  pub stored : IsStored table
  pub inside : gate < body_bytes shape
  pub calls : IsTrue (g.is_honest new) → g.moment new + length library ≤ g.moment old + (8 + gate)

-- The store of this library on a disk was found, in format 2. Nothing is pending.
pub record Finds {D : Type 0} (g : Ghosts D) (library : List ℕ) (old new : D) (f : Found) : Type 0 where
  -- what the contents are a store of
  pub store : IsTrue (g.is_honest new) → IsStoreAt f.bank.shape f.chosen f.bank.gate library f.table (g.contents old)
  pub buffer : length f.buffer.items ≡ piece_bytes
  pub numbered : is_numbered f.table ≡ true
  pub unlocked : unlocked_table f.table ≡ f.table
  pub bank : IsAt f.bank.shape (head_place f.chosen) (body_place f.bank.shape f.chosen) f.bank.gate false f.bank
  pub shape : (size : ℕ) × (f.bank.shape ≡ Two size)
  pub two : f.chosen < 2
  pub room : disk_bytes f.bank.shape ≤ g.size_of old
  pub synced : IsTrue (g.is_honest new) → Only (g.contents old) (g.image new)
  pub contents : IsTrue (g.is_honest new) → g.contents new ≡ g.contents old
  -- at most eight calls, and one for every two bytes of snapshot and groups: the library is read once
  pub calls : IsTrue (g.is_honest new) → g.moment new + length library ≤ g.moment old + (16 + f.bank.gate)

-- What the error implies for a disk that must have the wanted library.
pub record Refuses {D : Type 0} (g : Ghosts D) (wanted : Option (List ℕ)) (old new : D)
    (fault : OpenFault) : Type 0 where
  -- the error is true of the contents at the start
  pub says : IsTrue (g.is_honest new) → RefusalSays wanted (g.size_of old) (g.contents old) fault
  -- a disk that is too small or not formatted is found to be so before memory is allocated
  pub early : IsTrue (g.is_honest new) → IsForeign (g.size_of old) (g.contents old) → ComesOfForeign fault
  pub cause : IsCausedOpenFault (g.failures_of old) (g.failures_of new) fault
  -- Read is returned after everything written is on the device, and Write if the first sync failed
  pub tells : IsTrue (g.is_honest new) → DeviceTells (g.contents old) (g.image old) (g.image new) fault
  -- at most twelve calls, and one for every two bytes of the disk; two if it is no store, four for its format, six
  -- for its library
  pub calls : IsTrue (g.is_honest new) → g.moment new ≤ g.moment old + moments_until (24 + g.size_of old) fault

-- A store of this library was opened on the disk, with its table.
pub record FindsStore {D : Type 0} (g : Ghosts D) (library : List ℕ) (disk : D) (store : Store D g)
    (table : TableValue) : Type 0 where
  -- each image at the end is a store of the table, and of no other
  pub found : IsTrue (g.is_honest store.disk) → (c : List ℕ) → g.image store.disk c
      → IsStoreAt store.bank.shape store.chosen store.bank.gate library table c
  -- so are the contents at the start
  pub contents : IsTrue (g.is_honest store.disk)
      → IsStoreAt store.bank.shape store.chosen store.bank.gate library table (g.contents disk)
  pub only : IsTrue (g.is_honest store.disk) → (other : TableValue) → IsNewStore (g.contents disk) library other
      → other ≡ table
  -- at most ten calls, and one for every two bytes of snapshot and groups
  pub calls : IsTrue (g.is_honest store.disk)
      → g.moment store.disk + length library ≤ g.moment disk + (20 + store.bank.gate)

-- The store has not stopped and has this library; its table is in order and has no locks.
pub record Starts {D : Type 0} {g : Ghosts D} (library : List ℕ) (store : Store D g) (table : TableValue) : Type 0 where
  pub goes_on : store.stopped ≡ false
  pub has : store.library.items ≡ library
  pub numbered : is_numbered table ≡ true
  pub unlocked : unlocked_table table ≡ table

-- The disk is no store of this library that can be opened.
pub record RefusesDisk {D : Type 0} (g : Ghosts D) (library : List ℕ) (disk back : D) (fault : OpenFault) : Type 0 where
  pub refusal : Refuses g (Some library) disk back fault
  -- so the contents are no store of this library if the error describes them
  pub refused : SpeaksOfContents fault → IsTrue (g.is_honest back) → (table : TableValue)
      → IsNewStore (g.contents disk) library table → ⊥

-- A store of some library was found in some format, with its table.
pub record FindsAny {D : Type 0} (g : Ghosts D) (disk new : D) (library : List ℕ) (table : TableValue) : Type 0 where
  pub found : IsTrue (g.is_honest new) → (c : List ℕ) → g.image new c → IsStore c library table
  pub contents : IsTrue (g.is_honest new) → IsStore (g.contents disk) library table
  pub numbered : is_numbered table ≡ true
  pub unlocked : unlocked_table table ≡ table
  -- at most eight calls, and one for every two bytes of snapshot and groups
  pub calls : IsTrue (g.is_honest new) → (is : IsStore (g.contents disk) library table)
      × (g.moment new + length library ≤ g.moment disk + (16 + is.1.1))

-- The disk is no store of any library.
pub record RefusesAny {D : Type 0} (g : Ghosts D) (disk new : D) (fault : OpenFault) : Type 0 where
  pub says : IsTrue (g.is_honest new) → RefusalSays None (g.size_of disk) (g.contents disk) fault
  pub early : IsTrue (g.is_honest new) → IsForeign (g.size_of disk) (g.contents disk) → ComesOfForeign fault
  pub any_library : fault ≡ LibraryDiffers → ⊥
  pub any_format : fault ≡ OldFormat → ⊥
  pub cause : IsCausedOpenFault (g.failures_of disk) (g.failures_of new) fault
  pub tells : IsTrue (g.is_honest new) → DeviceTells (g.contents disk) (g.image disk) (g.image new) fault
  -- at most ten calls, and one for every two bytes of the disk; two if it is no store
  pub calls : IsTrue (g.is_honest new) → g.moment new ≤ g.moment disk + moments_until (20 + g.size_of disk) fault
