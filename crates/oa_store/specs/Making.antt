-- What the errors of a format and of an upgrade imply. (This project's choice.)
use Rattle.std.specs.Prelude.{◌≡◌, ◌↔◌, ◌⊎◌, ℕ, ◌+◌, ◌*◌, ◌<◌, ◌≤◌, IsTrue, true, List, length, Result, IsErrOf}
use Rattle.oa_disk.specs.promise.Disk.{Only}
use Rattle.oa_disk.specs.declared.disk.Disk.{Ghosts}
use Rattle.oa_image.specs.promise.Tables.{is_numbered}
use Rattle.oa_journal.specs.promise.Bank.{WritesNothing, disk_bytes}
use Rattle.oa_journal.specs.declared.shape.BankFormat.TheVariants.{One, Two}
use Rattle.oa_store.specs.declared.fault.UpgradeFault.{UpgradeFault}
use Rattle.oa_store.specs.declared.fault.UpgradeFault.TheVariants as upgrades
use Rattle.oa_store.specs.promise.Stores.{checkpoint_calls, piece_bytes, IsStoreAt}
use Rattle.oa_store.specs.Faults.{IsCausedUpgrade, IsRefusedUpgrade, ReadingTells, UpgradeSays, UpgradeDeviceTells}
use Rattle.oa_table.specs.promise.Tables.{TableValue}

-- One error is returned exactly if the disk has fewer bytes than those of format 1 and two bodies of this size,
-- before the first call.
pub record RefusesSmall {D T E : Type 0} (g : Ghosts D) (small : E) (size : ℕ) (old new : D)
    (result : Result T E) : Type 0 where
  pub exactly : IsErrOf result small ↔ (g.size_of old < disk_bytes (Two size))
  pub same : IsErrOf result small → new ≡ old

-- The disk has no store that can be upgraded to bodies of this size, or an allocation or the device failed.
-- Everything but the cause is stated of a disk that is honest at the end.
pub record RefusesReading {D : Type 0} (g : Ghosts D) (size : ℕ) (old new : D) (fault : UpgradeFault) : Type 0 where
  -- the error is true of the contents at the start
  pub says : IsTrue (g.is_honest new) → UpgradeSays size (g.size_of old) (g.contents old) fault
  -- that the disk is too small for format 2 is no reason
  pub any_size : fault ≡ upgrades.TooSmall → ⊥
  pub cause : IsCausedUpgrade (g.failures_of old) (g.failures_of new) fault
  -- an error of a write is that of the first sync
  pub tells : IsTrue (g.is_honest new) → ReadingTells (g.contents old) (g.image old) (g.image new) fault
  -- at most ten calls, and one for every two bytes of the disk
  pub calls : IsTrue (g.is_honest new) → g.moment new ≤ g.moment old + (20 + g.size_of old)

-- The store of format 1 on a disk was found, by at most the calls of a reading, as `inspect` makes them, and there is
-- a buffer from which to write the next bank. Nothing is pending.
pub record FindsFormatOne {D : Type 0} (g : Ghosts D) (chosen : ℕ) (library : List ℕ) (table : TableValue)
    (buffer : List ℕ) (old new : D) : Type 0 where
  pub store : IsTrue (g.is_honest new) → (gate : ℕ) × IsStoreAt One chosen gate library table (g.contents old)
      × (g.moment new + length library ≤ g.moment old + (16 + gate))
  pub two : chosen < 2
  pub numbered : is_numbered table ≡ true
  pub whole : length buffer ≡ piece_bytes
  pub synced : IsTrue (g.is_honest new) → Only (g.contents old) (g.image new)
  pub contents : IsTrue (g.is_honest new) → g.contents new ≡ g.contents old

-- An upgrade of a store of format 1 makes at most the calls of a reading, as `inspect` makes them, and those of a
-- checkpoint.
abbrev pub CallsForUpgrade : {D : Type 0} → Ghosts D → D → D → Type 0
CallsForUpgrade g old new = (library : List ℕ) × (table : TableValue) × (chosen : ℕ) × (gate : ℕ)
    × IsStoreAt One chosen gate library table (g.contents old)
    × (g.moment new + length library ≤ g.moment old + (16 + gate) + 2 * checkpoint_calls library table)

-- A store was not upgraded to format 2 with bodies of this size. Everything but the cause is stated of a disk that is
-- honest at the end.
pub record RefusesUpgrade {D : Type 0} (g : Ghosts D) (size : ℕ) (old new : D) (fault : UpgradeFault) : Type 0 where
  -- the error is true of the contents at the start
  pub says : IsTrue (g.is_honest new) → UpgradeSays size (g.size_of old) (g.contents old) fault
  -- unless a write or a sync failed, the error comes before the first write
  pub refused : IsRefusedUpgrade fault → IsTrue (g.is_honest new) → WritesNothing g.image g.moment g.image_since old new
  pub cause : IsCausedUpgrade (g.failures_of old) (g.failures_of new) fault
  pub tells : IsTrue (g.is_honest new) → UpgradeDeviceTells size (g.contents old) (g.image old) (g.image new) fault
  -- then at most ten calls were made, and one for every two bytes of the disk
  pub calls : IsRefusedUpgrade fault → IsTrue (g.is_honest new) → g.moment new ≤ g.moment old + (20 + g.size_of old)
  -- otherwise at most that number, or those of an upgrade
  pub most : IsTrue (g.is_honest new) → (g.moment new ≤ g.moment old + (20 + g.size_of old)) ⊎ CallsForUpgrade g old new
