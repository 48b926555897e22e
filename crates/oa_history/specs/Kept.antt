-- Definitions for contracts and proofs, beside promise/CrashHistories.
use Rattle.std.specs.Prelude.{◌≡◌, ◌<◌, ℕ, List, ⊤}
use Rattle.oa_disk.specs.promise.Memory.{memory_contents}
use Rattle.oa_disk.specs.declared.disk.DeviceFault.TheVariants as devices
use Rattle.oa_disk.specs.declared.memory.MemoryDisk.{MemoryDisk}
use Rattle.oa_printer.specs.promise.Canonical.{canonical}
use Rattle.oa_group_commit.specs.promise.Groups.{HoldsState}
use Rattle.oa_compat.specs.declared.library_text.TextError.TheVariants as texts
use Rattle.oa_journal.specs.promise.Bank.{disk_bytes}
use Rattle.oa_journal.specs.declared.shape.BankFormat.TheVariants.{One, Two}
use Rattle.oa_turn.specs.promise.Beginnings.{CanBegin}
use Rattle.oa_turn.specs.promise.Events.{held_of}
use Rattle.oa_server.specs.promise.ServerMachine.{opened, server_machine}
use Rattle.oa_decision.specs.promise.States.{State}
use Rattle.oa_store.specs.promise.Faults.{SpeaksOfContents}
use Rattle.oa_store.specs.declared.fault.FormatFault.{FormatFault}
use Rattle.oa_store.specs.declared.fault.FormatFault.TheVariants as formats
use Rattle.oa_store.specs.declared.fault.UpgradeFault.{UpgradeFault}
use Rattle.oa_store.specs.declared.fault.UpgradeFault.TheVariants as upgrades
use Rattle.oa_store.specs.declared.fault.WriteFault.TheVariants as writes
use Rattle.oa_store.specs.promise.Stores.{IsStoreIn}
use Rattle.oa_history.specs.declared.fault.HistoryFault.{HistoryFault}
use Rattle.oa_history.specs.declared.fault.HistoryFault.TheVariants.{Format, Upgrade, Open, Checkpoint, Text, Memory}

-- The disk is a store of the state, with which a server may begin. There are no locks.
pub record IsRecoverable (disk : MemoryDisk) (state : State) : Type 0 where
  pub holds : HoldsState server_machine state (memory_contents disk)
  pub begins : CanBegin state
  pub unlocked : opened state ≡ state

-- These are a store of format 1 of the state's library and table, with which a server may begin after an upgrade to
-- banks of this size.
pub record CanBecome (bank : ℕ) (contents : List ℕ) (state : State) : Type 0 where
  pub was : IsStoreIn One contents (canonical state.library) (held_of state)
  pub banks : bank ≡ state.bank
  pub begins : CanBegin state
  pub unlocked : opened state ≡ state

-- Why a valid store has no history: an allocation failed, the log of a disk was full, or a call of it failed. No
-- opening was refused, and the text of each library is read.
abbrev pub IsWanting : HistoryFault → Type 0
IsWanting (Format fault) = ⊥
IsWanting (Upgrade fault) = ⊥
IsWanting (Open fault) = SpeaksOfContents fault → ⊥
IsWanting (Checkpoint fault) = fault ≡ writes.Device devices.Write
IsWanting (Text fault) = fault ≡ texts.Memory
IsWanting Memory = ⊤

-- the error is one of a disk of this size: it is too small exactly if a store with such banks does not fit
abbrev pub IsUnformatted : ℕ → ℕ → FormatFault → Type 0
IsUnformatted bank size formats.TooSmall = size < disk_bytes (Two bank)
IsUnformatted bank size (formats.Device fault) = ⊤
IsUnformatted bank size formats.Memory = ⊤

-- Why a disk of this size has no history over a new store with such banks: that, or it was not formatted.
abbrev pub IsUnmade : ℕ → ℕ → HistoryFault → Type 0
IsUnmade bank size (Format fault) = IsUnformatted bank size fault
IsUnmade bank size (Upgrade fault) = ⊥
IsUnmade bank size (Open fault) = SpeaksOfContents fault → ⊥
IsUnmade bank size (Checkpoint fault) = fault ≡ writes.Device devices.Write
IsUnmade bank size (Text fault) = fault ≡ texts.Memory
IsUnmade bank size Memory = ⊤

-- Why a store of format 1 that fits into such banks was not upgraded to them on a disk of this size: they do not fit,
-- an allocation failed, or a call of the disk failed.
abbrev pub IsNotBrought : ℕ → ℕ → UpgradeFault → Type 0
IsNotBrought bank size upgrades.TooSmall = size < disk_bytes (Two bank)
IsNotBrought bank size upgrades.NotAStore = ⊥
IsNotBrought bank size upgrades.AlreadyNew = ⊥
IsNotBrought bank size (upgrades.Damaged place) = ⊥
IsNotBrought bank size (upgrades.Device fault) = ⊤
IsNotBrought bank size upgrades.Memory = ⊤

abbrev pub IsUnbrought : ℕ → ℕ → HistoryFault → Type 0
IsUnbrought bank size (Format fault) = ⊥
IsUnbrought bank size (Upgrade fault) = IsNotBrought bank size fault
IsUnbrought bank size (Open fault) = ⊥
IsUnbrought bank size (Checkpoint fault) = ⊥
IsUnbrought bank size (Text fault) = ⊥
IsUnbrought bank size Memory = ⊤
