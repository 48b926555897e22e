-- Why there is no store, and no checkpoint of one.
use Rattle.std.proofs.Common.{◌≡◌, ◌<◌, ℕ, List, Bool, false, true, true≢false, Err, IsErrOf, Result, refl, sym, ◌∙◌, ap}
use Rattle.oa_disk.specs.declared.disk.DeviceFault.{DeviceFault}
use Rattle.oa_disk.specs.declared.disk.DeviceFault.TheVariants.{Write}
use Rattle.oa_journal.specs.promise.Bank.{disk_bytes}
use Rattle.oa_journal.specs.declared.shape.BankFormat.TheVariants.{Two}
use Rattle.oa_store.specs.Faults.{UpgradeSays}
use Rattle.oa_store.specs.declared.fault.UpgradeFault.{UpgradeFault}
use Rattle.oa_store.specs.declared.fault.UpgradeFault.TheVariants as upgrades
use Rattle.oa_store.specs.declared.fault.WriteFault.{WriteFault}
use Rattle.oa_store.specs.declared.fault.WriteFault.TheVariants as writes
use Rattle.oa_store.specs.declared.fault.FormatFault.TheVariants.{TooSmall, Device, Memory}
use Rattle.oa_history.specs.Kept.{IsNotBrought, IsUnmade, IsWanting}
use Rattle.oa_history.specs.declared.fault.HistoryFault.{HistoryFault}
use Rattle.oa_history.specs.declared.fault.HistoryFault.TheVariants as histories

-- what keeps a store from a history keeps a disk from one
pub unmade : (bank size : ℕ) (fault : HistoryFault) → IsWanting fault → IsUnmade bank size fault
unmade bank size (histories.Format fault) wanting = absurd wanting
unmade bank size (histories.Upgrade fault) wanting = absurd wanting
unmade bank size (histories.Open fault) wanting = wanting
unmade bank size (histories.Checkpoint fault) wanting = wanting
unmade bank size (histories.Text fault) wanting = wanting
unmade bank size histories.Memory wanting = tt

-- what keeps a store of format 1 from being brought to such banks
pub unbrought : (bank size : ℕ) (contents : List ℕ) (fault : UpgradeFault) → (fault ≡ upgrades.TooSmall → size < disk_bytes (Two bank))
    → (UpgradeSays bank size contents upgrades.NotAStore → ⊥) → (UpgradeSays bank size contents upgrades.AlreadyNew → ⊥)
    → ((place : ℕ) → UpgradeSays bank size contents (upgrades.Damaged place) → ⊥) → UpgradeSays bank size contents fault → IsNotBrought bank size fault
unbrought bank size contents upgrades.TooSmall small none new damaged says = small refl
unbrought bank size contents upgrades.NotAStore small none new damaged says = none says
unbrought bank size contents upgrades.AlreadyNew small none new damaged says = new says
unbrought bank size contents (upgrades.Damaged place) small none new damaged says = damaged place says
unbrought bank size contents (upgrades.Device fault) small none new damaged says = tt
unbrought bank size contents upgrades.Memory small none new damaged says = tt

-- a checkpoint of a store that goes on fails by a write
pub write_failed : (was : Bool) (result : Result (Unit {0}) WriteFault) (fault : WriteFault) → result ≡ Err fault → was ≡ false
    → (IsErrOf result writes.Stopped → was ≡ true) → ((device : DeviceFault) → IsErrOf result (writes.Device device) → device ≡ Write)
    → fault ≡ writes.Device Write
write_failed was result writes.Stopped is going late fails = absurd (true≢false (sym (late is) ∙ going))
write_failed was result (writes.Device device) is going late fails = ap writes.Device (fails device is)
