-- Definitions for contracts and proofs, beside promise/CrashHistories.
use Rattle.std.specs.Prelude.{◌≡◌, ◌⊎◌, ℕ, ◌+◌, ◌*◌, ◌≤◌, IsTrue, true, min, List, length}
use Rattle.oa_disk.specs.promise.Disk.{Torn}
use Rattle.oa_disk.specs.promise.Memory.{IsTornAt, memory_image, moments_of}
use Rattle.oa_disk.specs.declared.crash.Tear.{Tear}
use Rattle.oa_disk.specs.declared.disk.Disk.{Ghosts}
use Rattle.oa_disk.specs.declared.memory.MemoryDisk.{MemoryDisk}
use Rattle.oa_printer.specs.promise.Canonical.{canonical}
use Rattle.oa_idl.specs.promise.Trees.{TreeValue}
use Rattle.oa_image.specs.promise.Tables.{is_numbered}
use Rattle.oa_journal.specs.promise.Bank.{WritesNothing}
use Rattle.oa_journal.specs.declared.shape.BankFormat.TheVariants.{One}
use Rattle.oa_store.specs.promise.Stores.{checkpoint_calls, IsStoreAt}
use Rattle.oa_store.specs.Calls.{format_calls}
use Rattle.oa_store.specs.Changes.{IsNoneOrFirst}
use Rattle.oa_store.specs.promise.Changes.{IsUpgrade}
use Rattle.oa_store.specs.promise.Faults.{IsMigrated}
use Rattle.oa_store.specs.declared.store.Store.{Store}
use Rattle.oa_table.specs.promise.Tables.{TableValue, unlocked_table}
use Rattle.oa_history.specs.declared.session.Stop.{Stop}

-- A disk with these contents was formatted with the library, and crashed. It has the old contents except for the
-- first byte, or no store, or the new one; and that is what a crash of the disk at that point in time leaves, with
-- that tear. At most the calls of one format were made.
pub record IsStoppedFormatting (found : List ℕ) (library : TreeValue) (bank : ℕ) (moment : ℕ) (tear : Tear)
    (disk : MemoryDisk)
    (left : List ℕ) : Type 0 where
  pub either : Torn 0 1 found left ⊎ IsNoneOrFirst bank (canonical library) left
  pub torn : IsTornAt disk tear (min moment (moments_of disk)) left
  pub calls : moments_of disk ≤ 2 * format_calls (canonical library)

-- A disk with these contents was upgraded to format 2 with banks of this size, and crashed. It is a store of the same
-- state, in the old format or the new one, as a crash of the disk at that point in time leaves it, with that tear. It
-- was a store of format 1, and after the last call of the disk it is the same store in the new format. At most the
-- calls of one reading and of one checkpoint were made.
pub record IsStoppedUpgrading (found : List ℕ) (bank : ℕ) (stop : Stop) (disk : MemoryDisk)
    (left : List ℕ) : Type 0 where
  pub either : IsUpgrade bank found left
  pub torn : IsTornAt disk stop.tear (min stop.moment (moments_of disk)) left
  pub brought : IsMigrated bank found (memory_image disk)
  pub chosen : ℕ
  pub gate : ℕ
  pub was : IsStoreAt One chosen gate brought.was.library brought.was.table found
  pub calls : moments_of disk + length brought.was.library
      ≤ 16 + gate + 2 * checkpoint_calls brought.was.library brought.was.table

-- A store was opened on the disk: the contents are that store, and so is each image after the opening, which wrote
-- nothing.
pub record IsFoundStore {D : Type 0} {g : Ghosts D} (disk : D) (store : Store D g) (table : TableValue) : Type 0 where
  pub contents : IsStoreAt store.bank.shape store.chosen store.bank.gate store.library.items table (g.contents disk)
  pub found : (c : List ℕ) → g.image store.disk c
      → IsStoreAt store.bank.shape store.chosen store.bank.gate store.library.items table c
  pub unlocked : unlocked_table table ≡ table
  pub numbered : is_numbered table ≡ true
  pub reads : WritesNothing g.image g.moment g.image_since disk store.disk
  pub calls : IsTrue (g.is_honest store.disk)
      → g.moment store.disk + length store.library.items ≤ g.moment disk + (20 + store.bank.gate)
