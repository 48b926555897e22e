-- What the errors of an opening imply. (This project's choice.)
use Rattle.std.specs.Prelude.{◌≡◌, ◌≢◌, ◌⊎◌, ℕ, ◌+◌, ◌≤◌, List, length, Option, Some, None, ⊤}
use Rattle.oa_disk.specs.promise.Disk.{HasCounted, Only}
use Rattle.oa_disk.specs.declared.disk.DeviceFault.{DeviceFault}
use Rattle.oa_disk.specs.declared.disk.DeviceFault.TheVariants as devices
use Rattle.oa_image.specs.promise.Tables.{FitsBank}
use Rattle.oa_model.specs.promise.Limits.{max_library_bytes}
use Rattle.oa_table.specs.promise.Tables.{TableValue}
use Rattle.oa_journal.specs.declared.shape.BankFormat.{BankFormat}
use Rattle.oa_journal.specs.declared.shape.BankFormat.TheVariants.{One, Two}
use Rattle.oa_journal.specs.promise.Bank.{from_place, HasHead, HasLibrary, disk_bytes}
use Rattle.oa_journal.specs.promise.Damages.{IsDamagedBody, IsDamagedHead}
use Rattle.oa_store.specs.declared.fault.OpenFault.{OpenFault}
use Rattle.oa_store.specs.declared.fault.OpenFault.TheVariants.{NotAStore, OldFormat, LibraryDiffers, Damaged, Device}
use Rattle.oa_store.specs.declared.fault.OpenFault.TheVariants.{Memory}
use Rattle.oa_store.specs.promise.Stores.{body_place, head_place, IsFormatted, IsForeign, IsStoreIn}

-- the error describes the contents of the disk
abbrev pub SpeaksOfContents : OpenFault → Type 0
SpeaksOfContents NotAStore = ⊤
SpeaksOfContents OldFormat = ⊤
SpeaksOfContents LibraryDiffers = ⊤
SpeaksOfContents (Damaged place) = ⊤
SpeaksOfContents (Device fault) = ⊥
SpeaksOfContents Memory = ⊥

-- the error may be returned for a disk that is no store
abbrev pub ComesOfForeign : OpenFault → Type 0
ComesOfForeign NotAStore = ⊤
ComesOfForeign OldFormat = ⊥
ComesOfForeign LibraryDiffers = ⊥
ComesOfForeign (Damaged place) = ⊥
ComesOfForeign (Device fault) = ⊤
ComesOfForeign Memory = ⊥

-- How far the clock advances at most before an error, by two for each call: an error that comes before the body is
-- read comes after few calls.
abbrev pub moments_until : ℕ → OpenFault → ℕ
moments_until most NotAStore = 4
moments_until most OldFormat = 8
moments_until most LibraryDiffers = 12
moments_until most (Damaged place) = most
moments_until most (Device fault) = most
moments_until most Memory = most

-- an error of the device is returned only if a call has failed, and any other only if none has
abbrev pub IsCausedOpenFault : ℕ → ℕ → OpenFault → Type 0
IsCausedOpenFault before now NotAStore = now ≡ before
IsCausedOpenFault before now OldFormat = now ≡ before
IsCausedOpenFault before now LibraryDiffers = now ≡ before
IsCausedOpenFault before now (Damaged place) = now ≡ before
IsCausedOpenFault before now (Device fault) = HasCounted before now
IsCausedOpenFault before now Memory = now ≡ before

-- Which kind of call failed. Everything written is on the device before the first read; if the first sync fails, a
-- crash may still leave each of the old images.
abbrev pub IsFailed : List ℕ → (List ℕ → Type 0) → (List ℕ → Type 0) → DeviceFault → Type 0
IsFailed contents before after devices.Read = Only contents after
IsFailed contents before after devices.Write = (c : List ℕ) → before c → after c

-- what an error of the device implies, for a disk with these contents, these old images and these images now
abbrev pub DeviceTells : List ℕ → (List ℕ → Type 0) → (List ℕ → Type 0) → OpenFault → Type 0
DeviceTells contents before after NotAStore = ⊤
DeviceTells contents before after OldFormat = ⊤
DeviceTells contents before after LibraryDiffers = ⊤
DeviceTells contents before after (Damaged place) = ⊤
DeviceTells contents before after (Device fault) = IsFailed contents before after fault
DeviceTells contents before after Memory = ⊤

-- its bank begins as one of another library, in format 2: a bank of format 1 is reported before its library is read
pub record IsOther (contents library : List ℕ) : Type 0 where
  pub chosen : ℕ
  pub head : IsFormatted chosen contents
  pub size : ℕ
  pub room : disk_bytes (Two size) ≤ length contents
  pub other : List ℕ
  pub has : HasLibrary (Two size) (from_place (head_place chosen) contents)
      (from_place (body_place (Two size) chosen) contents) other
  pub differs : other ≢ library

-- it has the wanted library, if one is wanted, and then in format 2
abbrev pub HasWanted : Option (List ℕ) → BankFormat → (ℕ → ℕ) → (ℕ → ℕ) → Type 0
HasWanted None shape head body = ⊤
HasWanted (Some library) One head body = ⊥
HasWanted (Some library) (Two size) head body = HasLibrary (Two size) head body library

-- its bank has a head of format 1
pub record IsOld (contents : List ℕ) : Type 0 where
  pub chosen : ℕ
  pub head : IsFormatted chosen contents
  pub library : ℕ
  pub snapshot : ℕ
  pub has : HasHead One (head_place chosen) contents library snapshot

-- its bank has no head of any format, and this is the place of the head
pub record IsBeheaded (contents : List ℕ) (place : ℕ) : Type 0 where
  pub chosen : ℕ
  pub head : IsFormatted chosen contents
  pub there : place ≡ head_place chosen
  pub none : IsDamagedHead (head_place chosen) contents

-- its bank has a head, begins in the given way, and its body is damaged at this place of the disk
pub record IsSpoilt (Begins : BankFormat → (ℕ → ℕ) → (ℕ → ℕ) → Type 0) (contents : List ℕ) (place : ℕ) : Type 0 where
  pub chosen : ℕ
  pub head : IsFormatted chosen contents
  pub shape : BankFormat
  pub room : disk_bytes shape ≤ length contents
  pub offset : ℕ
  pub there : place ≡ body_place shape chosen + offset
  pub damaged : IsDamagedBody shape (from_place (head_place chosen) contents)
      (from_place (body_place shape chosen) contents) offset
  pub begins : Begins shape (from_place (head_place chosen) contents) (from_place (body_place shape chosen) contents)

abbrev pub IsDamaged : Option (List ℕ) → List ℕ → ℕ → Type 0
IsDamaged wanted contents place = IsBeheaded contents place ⊎ IsSpoilt (HasWanted wanted) contents place

-- it has another library than the wanted one
abbrev pub IsUnwanted : Option (List ℕ) → List ℕ → Type 0
IsUnwanted None contents = ⊥
IsUnwanted (Some library) contents = IsOther contents library

-- it is in format 1, and a store of one library is wanted; any other call reads either format
abbrev pub IsTooOld : Option (List ℕ) → List ℕ → Type 0
IsTooOld None contents = ⊥
IsTooOld (Some library) contents = IsOld contents

-- what an error implies for a disk of this size and these contents
abbrev pub RefusalSays : Option (List ℕ) → ℕ → List ℕ → OpenFault → Type 0
RefusalSays wanted size contents NotAStore = IsForeign size contents
RefusalSays wanted size contents OldFormat = IsTooOld wanted contents
RefusalSays wanted size contents LibraryDiffers = IsUnwanted wanted contents
RefusalSays wanted size contents (Damaged place) = IsDamaged wanted contents place
RefusalSays wanted size contents (Device fault) = ⊤
RefusalSays wanted size contents Memory = ⊤

-- a store of format 1 with a library that a server accepts and a table that fits into a body of that size
pub record CanBeBrought (bank : ℕ) (contents : List ℕ) : Type 0 where
  pub library : List ℕ
  pub table : TableValue
  pub store : IsStoreIn One contents library table
  pub short : length library ≤ max_library_bytes
  pub fits : FitsBank bank table

-- The contents were such a store, and each image is one of format 2 with the same library and table.
pub record IsMigrated (bank : ℕ) (contents : List ℕ) (image : List ℕ → Type 0) : Type 0 where
  pub was : CanBeBrought bank contents
  pub each : (c : List ℕ) → image c → IsStoreIn (Two bank) c was.library was.table
