-- Definitions for contracts and proofs, beside promise/Writing.
use Rattle.std.specs.Prelude.{◌≡◌, ◌↔◌, ℕ, ◌+◌, ◌-◌, ◌≤◌, true, false, List, length, Result, OnOk, OnErr, IsErrOf}
use Rattle.oa_disk.specs.declared.disk.DeviceFault.{DeviceFault}
use Rattle.oa_disk.specs.declared.disk.DeviceFault.TheVariants.{Write}
use Rattle.oa_disk.specs.declared.disk.Disk.{Ghosts}
use Rattle.oa_journal.specs.Append.{group_of}
use Rattle.oa_journal.specs.promise.Bank.{first_gate, ample_bytes, body_bytes}
use Rattle.oa_store.specs.declared.fault.WriteFault.{WriteFault}
use Rattle.oa_store.specs.declared.fault.WriteFault.TheVariants as faults
use Rattle.oa_store.specs.declared.store.Store.{Store}
use Rattle.oa_table.specs.promise.Tables.{TableValue}

-- The store has not stopped exactly if `Ok` is returned. One error means that it had stopped before, the other that a
-- write has failed.
pub record StopsAtFault {D T : Type 0} {g : Ghosts D} (old new : Store D g)
    (result : Result T WriteFault) : Type 0 where
  pub goes_on : OnOk result (new.stopped ≡ false)
  pub stops : OnErr result (new.stopped ≡ true)
  pub stopped : IsErrOf result faults.Stopped ↔ (old.stopped ≡ true)
  pub fault : (fault : DeviceFault) → IsErrOf result (faults.Device fault) → fault ≡ Write

-- The bank in use has the group of a batch appended, or nothing has changed in memory.
pub record AddsGroup {D T E : Type 0} {g : Ghosts D} (batch : List ℕ) (old new : Store D g)
    (result : Result T E) : Type 0 where
  pub gate : OnOk result (new.bank.gate ≡ old.bank.gate + (5 + length (group_of batch)))
  pub refused : OnErr result (new.bank.gate ≡ old.bank.gate)
  pub chosen : new.chosen ≡ old.chosen
  pub library : new.library.items ≡ old.library.items

-- The other bank is in use, with this text of a library and this table, or nothing has changed in memory.
pub record SwitchesBank {D T E : Type 0} {g : Ghosts D} (text : List ℕ) (table : TableValue) (old new : Store D g)
    (result : Result T E) : Type 0 where
  pub gate : OnOk result (new.bank.gate ≡ first_gate text table)
  pub room : OnOk result (ample_bytes ≤ body_bytes new.bank.shape - new.bank.gate)
  pub chosen : OnOk result (new.chosen ≡ 1 - old.chosen)
  pub refused : OnErr result ((new.chosen ≡ old.chosen) × (new.bank.gate ≡ old.bank.gate))
  pub library : OnOk result (new.library.items ≡ text)
  pub library_kept : OnErr result (new.library.items ≡ old.library.items)
