-- What the writing calls of an open store leave of it. (This project's choice.)
use Rattle.std.specs.Prelude.{◌≡◌, ◌+◌, ◌*◌, ◌≤◌, IsTrue, true, false}
use Rattle.oa_disk.specs.promise.Disk.{HasCounted}
use Rattle.oa_disk.specs.declared.disk.Disk.{Ghosts}
use Rattle.oa_journal.specs.promise.Bank.{body_bytes}
use Rattle.oa_store.specs.promise.Stores.{most_checkpoint_calls}
use Rattle.oa_store.specs.declared.store.Store.{Store}

-- What every call keeps: the rules of the device's failures, and the store's format.
pub record DeviceFrame {D : Type 0} {g : Ghosts D} (old new : Store D g) : Type 0 where
  pub honest : g.is_honest new.disk ≡ g.is_honest old.disk
  pub size : g.size_of new.disk ≡ g.size_of old.disk
  pub failures : g.failures_of old.disk ≤ g.failures_of new.disk
  -- no call follows one that has failed
  pub once : g.failures_of new.disk ≤ g.failures_of old.disk + 1
  pub shape : new.bank.shape ≡ old.bank.shape
  -- the store stops only if a call has failed, and then for good
  pub stops : old.stopped ≡ false → new.stopped ≡ true → HasCounted (g.failures_of old.disk) (g.failures_of new.disk)
  pub stays : old.stopped ≡ true → (new.stopped ≡ true) × (new.disk ≡ old.disk)
  -- each failed call is reported
  pub unfailed : new.stopped ≡ false → g.failures_of new.disk ≡ g.failures_of old.disk

-- It makes at most the calls of one checkpoint, whatever that writes.
abbrev pub CallsForOneCheckpoint : {D : Type 0} {g : Ghosts D} → Store D g → Store D g → Type 0
CallsForOneCheckpoint {D} {g} old new =
    IsTrue (g.is_honest old.disk)
    → g.moment new.disk ≤ g.moment old.disk + 2 * most_checkpoint_calls (body_bytes old.bank.shape)
