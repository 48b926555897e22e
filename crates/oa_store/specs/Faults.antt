-- Definitions for contracts and proofs, beside promise/Faults.
use Rattle.std.specs.Prelude.{◌≡◌, ◌⊎◌, ℕ, ◌+◌, ◌<◌, List, length, ⊤}
use Rattle.oa_disk.specs.promise.Disk.{HasCounted, Only}
use Rattle.oa_disk.specs.declared.disk.DeviceFault.{DeviceFault}
use Rattle.oa_disk.specs.declared.disk.DeviceFault.TheVariants as devices
use Rattle.oa_image.specs.promise.Tables.{reserved_bytes, table_image}
use Rattle.oa_model.specs.promise.Limits.{max_library_bytes}
use Rattle.oa_table.specs.promise.Tables.{TableValue}
use Rattle.oa_journal.specs.declared.bank.BankFault.{BankFault}
use Rattle.oa_journal.specs.declared.bank.BankFault.TheVariants as banks
use Rattle.oa_journal.specs.declared.shape.BankFormat.{BankFormat}
use Rattle.oa_journal.specs.declared.shape.BankFormat.TheVariants.{One, Two}
use Rattle.oa_journal.specs.promise.Bank.{HasHead}
use Rattle.oa_store.specs.declared.fault.FindFault.{FindFault}
use Rattle.oa_store.specs.declared.fault.FindFault.TheVariants as finds
use Rattle.oa_store.specs.declared.fault.OpenFault.{OpenFault}
use Rattle.oa_store.specs.declared.fault.OpenFault.TheVariants.{NotAStore, Damaged, Device, Memory}
use Rattle.oa_store.specs.declared.fault.UpgradeFault.{UpgradeFault}
use Rattle.oa_store.specs.declared.fault.UpgradeFault.TheVariants as upgrades
use Rattle.oa_store.specs.promise.Stores.{head_place, IsFormatted, IsForeign, IsStoreIn}
use Rattle.oa_store.specs.promise.Faults.{IsFailed, IsOld, IsBeheaded, IsSpoilt, CanBeBrought}

-- the error of a bank as one of an opening
abbrev pub of_bank : BankFault → OpenFault
of_bank (banks.Damaged place) = Damaged place
of_bank (banks.Device fault) = Device fault
of_bank banks.Memory = Memory

-- the same as one of a search for a head
abbrev pub finding_of_bank : BankFault → FindFault
finding_of_bank (banks.Damaged place) = finds.Damaged place
finding_of_bank (banks.Device fault) = finds.Device fault
finding_of_bank banks.Memory = finds.Memory

-- the same as one of an upgrade
abbrev pub upgrade_of_bank : BankFault → UpgradeFault
upgrade_of_bank (banks.Damaged place) = upgrades.Damaged place
upgrade_of_bank (banks.Device fault) = upgrades.Device fault
upgrade_of_bank banks.Memory = upgrades.Memory

-- the error of a search for a head as one of an opening
abbrev pub of_finding : FindFault → OpenFault
of_finding finds.NotAStore = NotAStore
of_finding (finds.Damaged place) = Damaged place
of_finding (finds.Device fault) = Device fault
of_finding finds.Memory = Memory

-- the same as one of an upgrade
abbrev pub upgrade_of_finding : FindFault → UpgradeFault
upgrade_of_finding finds.NotAStore = upgrades.NotAStore
upgrade_of_finding (finds.Damaged place) = upgrades.Damaged place
upgrade_of_finding (finds.Device fault) = upgrades.Device fault
upgrade_of_finding finds.Memory = upgrades.Memory

-- it is in format 1
abbrev pub HasOldShape : BankFormat → (ℕ → ℕ) → (ℕ → ℕ) → Type 0
HasOldShape shape head body = shape ≡ One

-- What an error implies for a disk of this size and these contents if no body was read.
abbrev pub HeadSays : ℕ → List ℕ → FindFault → Type 0
HeadSays size contents finds.NotAStore = IsForeign size contents
HeadSays size contents (finds.Damaged place) = IsBeheaded contents place
HeadSays size contents (finds.Device fault) = ⊤
HeadSays size contents finds.Memory = ⊤

-- its bank has a head of format 2
pub record IsNew (contents : List ℕ) : Type 0 where
  pub chosen : ℕ
  pub head : IsFormatted chosen contents
  pub size : ℕ
  pub library : ℕ
  pub snapshot : ℕ
  pub has : HasHead (Two size) (head_place chosen) contents library snapshot

-- a store of format 1 whose library or whose table is too large for a body of that size
pub record IsTooLarge (bank : ℕ) (contents : List ℕ) : Type 0 where
  pub library : List ℕ
  pub table : TableValue
  pub store : IsStoreIn One contents library table
  pub large : (max_library_bytes < length library) ⊎ (bank < length (table_image table) + reserved_bytes)

-- What an error of an upgrade to bodies of a size implies for a disk of this size and these contents. Memory is
-- allocated once a head of format 1 is found.
abbrev pub UpgradeSays : ℕ → ℕ → List ℕ → UpgradeFault → Type 0
UpgradeSays bank size contents upgrades.TooSmall = ⊤
UpgradeSays bank size contents upgrades.NotAStore = IsForeign size contents
UpgradeSays bank size contents upgrades.AlreadyNew = IsNew contents
UpgradeSays bank size contents (upgrades.Damaged place) =
    ((place ≡ 0) × IsTooLarge bank contents) ⊎ IsBeheaded contents place ⊎ IsSpoilt HasOldShape contents place
UpgradeSays bank size contents (upgrades.Device fault) = ⊤
UpgradeSays bank size contents upgrades.Memory = IsOld contents

-- a failed upgrade has written nothing, unless its error is a failed write or sync
abbrev pub IsRefusedUpgrade : UpgradeFault → Type 0
IsRefusedUpgrade upgrades.TooSmall = ⊤
IsRefusedUpgrade upgrades.NotAStore = ⊤
IsRefusedUpgrade upgrades.AlreadyNew = ⊤
IsRefusedUpgrade (upgrades.Damaged place) = ⊤
IsRefusedUpgrade (upgrades.Device fault) = fault ≡ devices.Read
IsRefusedUpgrade upgrades.Memory = ⊤

-- an error of the device is returned only if a call has failed, and any other only if none has
abbrev pub IsCausedUpgrade : ℕ → ℕ → UpgradeFault → Type 0
IsCausedUpgrade before now upgrades.TooSmall = now ≡ before
IsCausedUpgrade before now upgrades.NotAStore = now ≡ before
IsCausedUpgrade before now upgrades.AlreadyNew = now ≡ before
IsCausedUpgrade before now (upgrades.Damaged place) = now ≡ before
IsCausedUpgrade before now (upgrades.Device fault) = HasCounted before now
IsCausedUpgrade before now upgrades.Memory = now ≡ before

-- what an error of the device implies for an upgrade that has written nothing yet
abbrev pub ReadingTells : List ℕ → (List ℕ → Type 0) → (List ℕ → Type 0) → UpgradeFault → Type 0
ReadingTells contents before after upgrades.TooSmall = ⊤
ReadingTells contents before after upgrades.NotAStore = ⊤
ReadingTells contents before after upgrades.AlreadyNew = ⊤
ReadingTells contents before after (upgrades.Damaged place) = ⊤
ReadingTells contents before after (upgrades.Device fault) = IsFailed contents before after fault
ReadingTells contents before after upgrades.Memory = ⊤

-- Which kind of call of an upgrade to bodies of a size failed: a write or a sync, except the first one, fails only
-- after a store of format 1 was found that fits into such a body.
abbrev pub IsFailedUpgrade : ℕ → List ℕ → (List ℕ → Type 0) → (List ℕ → Type 0) → DeviceFault → Type 0
IsFailedUpgrade bank contents before after devices.Read = Only contents after
IsFailedUpgrade bank contents before after devices.Write =
    ((c : List ℕ) → before c → after c) ⊎ CanBeBrought bank contents

abbrev pub UpgradeDeviceTells : ℕ → List ℕ → (List ℕ → Type 0) → (List ℕ → Type 0) → UpgradeFault → Type 0
UpgradeDeviceTells bank contents before after upgrades.TooSmall = ⊤
UpgradeDeviceTells bank contents before after upgrades.NotAStore = ⊤
UpgradeDeviceTells bank contents before after upgrades.AlreadyNew = ⊤
UpgradeDeviceTells bank contents before after (upgrades.Damaged place) = ⊤
UpgradeDeviceTells bank contents before after (upgrades.Device fault) = IsFailedUpgrade bank contents before after fault
UpgradeDeviceTells bank contents before after upgrades.Memory = ⊤
