-- A store of format 1 that was found, and the disks that hold it. (This project's choice.)
use Rattle.std.specs.Prelude.{◌≡◌, ℕ, ◌+◌, ◌≤◌, IsTrue, length}
use Rattle.oa_disk.specs.promise.Disk.{NothingPending, Only}
use Rattle.oa_disk.specs.declared.disk.Disk.{Ghosts}
use Rattle.oa_image.specs.promise.Tables.{FitsBank}
use Rattle.oa_journal.specs.declared.shape.BankFormat.TheVariants.{One}
use Rattle.oa_model.specs.promise.Limits.{max_library_bytes}
use Rattle.oa_store.specs.declared.upgrading.OldStore.{OldStore}
use Rattle.oa_store.specs.promise.Stores.{IsStoreAt}

-- The store of format 1 on a disk was found. A server accepts its library, and its table fits into a body of this
-- size.
pub record FindsOld {D : Type 0} (g : Ghosts D) (size : ℕ) (old new : D) (found : OldStore) : Type 0 where
  pub size_is : found.size ≡ size
  -- at most the calls of a reading, as `inspect` makes them
  pub store : IsTrue (g.is_honest new)
      → (gate : ℕ) × IsStoreAt One found.chosen gate found.library.items found.table (g.contents old)
      × (g.moment new + length found.library.items ≤ g.moment old + (16 + gate))
  pub short : length found.library.items ≤ max_library_bytes
  pub fits : FitsBank size found.table
  -- so each image is that store and no other, and it is what a read returns
  pub synced : IsTrue (g.is_honest new) → Only (g.contents old) (g.image new)
  pub contents : IsTrue (g.is_honest new) → g.contents new ≡ g.contents old

-- A disk holds the store that was found, and nothing is pending.
pub record HoldsOld {D : Type 0} (g : Ghosts D) (found : OldStore) (disk : D) : Type 0 where
  pub gate : ℕ
  pub store : IsStoreAt One found.chosen gate found.library.items found.table (g.contents disk)
  pub settled : NothingPending g.contents g.image disk
