-- Definitions for contracts and proofs, beside promise/Holding.
use Rattle.std.specs.Prelude.{◌≡◌, ℕ, ◌+◌, ◌-◌, ◌<◌, ◌≤◌, true, false, IsTrue, List, length, Result, IsOk, OnOk, OnErr}
use Rattle.oa_disk.specs.promise.Disk.{HasCounted}
use Rattle.oa_disk.specs.declared.disk.Disk.{Ghosts}
use Rattle.oa_image.specs.promise.Tables.{FitsBank, is_numbered}
use Rattle.oa_journal.specs.promise.Bank.{ample_bytes, body_bytes}
use Rattle.oa_store.specs.declared.store.Store.{Store}
use Rattle.oa_table.specs.promise.Tables.{TableValue}
use Rattle.oa_store.specs.Kept.{HasRoom}

-- The store has not stopped, and the largest group fits if the batch has events.
pub record IsOpenFor {D : Type 0} {g : Ghosts D} (batch : List ℕ) (store : Store D g) : Type 0 where
  pub goes_on : store.stopped ≡ false
  pub room : HasRoom batch store

-- A checkpoint can be made of the table in a bank's body of this size.
pub record CanBeKept (bank : ℕ) (table : TableValue) : Type 0 where
  pub fits : FitsBank bank table
  pub numbered : is_numbered table ≡ true

-- A group fits before its first event. No checkpoint is made for that if the batch has events, or if none is due.
pub record MakesRoom {D T E : Type 0} {g : Ghosts D} (batch : List ℕ) (old new : Store D g)
    (result : Result T E) : Type 0 where
  pub quiet : 0 < length batch → (new.disk ≡ old.disk) × IsOk result
  pub undue : ample_bytes ≤ body_bytes old.bank.shape - old.bank.gate → (new.disk ≡ old.disk) × IsOk result
  pub room : OnOk result (ample_bytes ≤ body_bytes new.bank.shape - new.bank.gate)
  pub room_kept : new.stopped ≡ false → HasRoom batch new

-- A commit makes at most four calls and no checkpoint; no call if the batch has no event.
pub record CallsForGroup {D T E : Type 0} {g : Ghosts D} (batch : List ℕ) (old new : Store D g)
    (result : Result T E) : Type 0 where
  pub quiet : length batch ≡ 0 → (new.disk ≡ old.disk) × IsOk result × (new.stopped ≡ false)
  pub calls : IsTrue (g.is_honest old.disk) → g.moment new.disk ≤ g.moment old.disk + 8
  pub chosen : new.chosen ≡ old.chosen

-- The store stops exactly if the call fails.
pub record StopsWhereRefused {D T E : Type 0} {g : Ghosts D} (old new : Store D g) (result : Result T E) : Type 0 where
  pub going : OnOk result (new.stopped ≡ false)
  pub stops : OnErr result ((new.stopped ≡ true) × HasCounted (g.failures_of old.disk) (g.failures_of new.disk))
