-- The exit status of each fault, and which faults each function returns. (This project's choice.)
use Rattle.std.specs.Prelude.{◌≡◌, ◌⊎◌, ℕ, Result, Ok, Err, ⊤}
use Rattle.oa_idl.specs.declared.stop.Limit.TheVariants as limits
use Rattle.oa_idl.specs.declared.stop.ParseError.{ParseError}
use Rattle.oa_idl.specs.declared.stop.ParseError.TheVariants as parsing
use Rattle.oa_sema.specs.declared.fault.CheckError.{CheckError}
use Rattle.oa_sema.specs.declared.fault.CheckError.TheVariants as checking
use Rattle.oa_disk.specs.declared.disk.DeviceFault.{DeviceFault}
use Rattle.oa_disk.specs.declared.disk.DeviceFault.TheVariants as devices
use Rattle.oa_frame.specs.declared.ends.End.{End}
use Rattle.oa_frame.specs.declared.ends.End.TheVariants as sessions
use Rattle.oa_mux.specs.declared.session_end.SessionEnd.{SessionEnd}
use Rattle.oa_mux.specs.declared.session_end.SessionEnd.TheVariants as ends
use Rattle.oa_store.specs.declared.fault.FormatFault.{FormatFault}
use Rattle.oa_store.specs.declared.fault.FormatFault.TheVariants as formats
use Rattle.oa_store.specs.declared.fault.OpenFault.{OpenFault}
use Rattle.oa_store.specs.declared.fault.OpenFault.TheVariants as openings
use Rattle.oa_store.specs.declared.fault.UpgradeFault.{UpgradeFault}
use Rattle.oa_store.specs.declared.fault.UpgradeFault.TheVariants as upgrades
use Rattle.oa_commands.specs.declared.fault.Fault.{Fault}
use Rattle.oa_commands.specs.declared.fault.Fault.TheVariants as faults

abbrev pub status_of_text : ParseError → ℕ
status_of_text parsing.Memory = 5
status_of_text error = 2

abbrev pub status_of_tree : CheckError → ℕ
status_of_tree checking.Memory = 5
status_of_tree error = 2

-- 1 for a file, a device, a reader or a writer; 2 for a command line or a library; 3 for a store; 4 for a record or a
-- frame; 5 for out of memory
abbrev pub status_of : Fault → ℕ
status_of faults.Words = 2
status_of faults.TwoInputs = 2
status_of (faults.CannotRead name reason) = 1
status_of (faults.CannotWrite name reason) = 1
status_of (faults.InUse name) = 1
status_of faults.NotUtf8 = 2
status_of (faults.Parse error) = status_of_text error
status_of (faults.At error place) = 2
status_of (faults.Check error) = status_of_tree error
status_of faults.TooSmall = 3
status_of faults.NotAStore = 3
status_of faults.OldFormat = 3
status_of faults.AlreadyNew = 3
status_of faults.LibraryDiffers = 3
status_of (faults.Damaged byte) = 3
status_of faults.DeviceWrite = 1
status_of faults.DeviceRead = 1
status_of faults.Cut = 4
status_of faults.TooLong = 4
status_of (faults.BadHex line) = 4
status_of faults.FrameCut = 4
status_of faults.UnknownFrame = 4
status_of faults.Read = 1
status_of faults.Write = 1
status_of faults.Memory = 5

-- the faults of a disk and of a store, as those of the program
abbrev pub of_device : DeviceFault → Fault
of_device devices.Write = faults.DeviceWrite
of_device devices.Read = faults.DeviceRead

abbrev pub of_format : FormatFault → Fault
of_format formats.TooSmall = faults.TooSmall
of_format (formats.Device fault) = of_device fault
of_format formats.Memory = faults.Memory

abbrev pub of_open : OpenFault → Fault
of_open openings.NotAStore = faults.NotAStore
of_open openings.OldFormat = faults.OldFormat
of_open openings.LibraryDiffers = faults.LibraryDiffers
of_open (openings.Damaged place) = faults.Damaged place
of_open (openings.Device fault) = of_device fault
of_open openings.Memory = faults.Memory

abbrev pub of_upgrade : UpgradeFault → Fault
of_upgrade upgrades.TooSmall = faults.TooSmall
of_upgrade upgrades.NotAStore = faults.NotAStore
of_upgrade upgrades.AlreadyNew = faults.AlreadyNew
of_upgrade (upgrades.Damaged place) = faults.Damaged place
of_upgrade (upgrades.Device fault) = of_device fault
of_upgrade upgrades.Memory = faults.Memory

-- how a session of one client ends, as the program's result: the end of the input is no fault
abbrev pub of_end : End → Result (Unit {0}) Fault
of_end sessions.Closed = Ok tt
of_end sessions.Cut = Err faults.Cut
of_end sessions.TooLong = Err faults.TooLong
of_end (sessions.BadHex line) = Err (faults.BadHex line)
of_end sessions.ReadFault = Err faults.Read
of_end sessions.WriteFault = Err faults.Write

-- the end of a session of many clients as the program's result: the end of the input between two frames is no fault
abbrev pub of_session_end : SessionEnd → Result (Unit {0}) Fault
of_session_end ends.Closed = Ok tt
of_session_end ends.Cut = Err faults.FrameCut
of_session_end ends.Unknown = Err faults.UnknownFrame
of_session_end ends.Memory = Err faults.Memory
of_session_end ends.ReadFault = Err faults.Read
of_session_end ends.WriteFault = Err faults.Write

-- ---- of files

-- of a file that cannot be read
abbrev pub IsOfReading : Fault → Type 0
IsOfReading (faults.CannotRead name reason) = ⊤
IsOfReading faults.Memory = ⊤
IsOfReading other = ⊥

-- of a file that another process has locked
abbrev pub IsOfUse : Fault → Type 0
IsOfUse (faults.InUse name) = ⊤
IsOfUse faults.Memory = ⊤
IsOfUse other = ⊥

-- of a file that is opened as a store's for reading
abbrev pub IsOfOpening : Fault → Type 0
IsOfOpening fault = IsOfReading fault ⊎ IsOfUse fault

-- of a file that cannot be created, lengthened, or written in the required length
abbrev pub IsOfMaking : Fault → Type 0
IsOfMaking (faults.CannotWrite name reason) = ⊤
IsOfMaking faults.Memory = ⊤
IsOfMaking other = ⊥

-- of a file that is opened as a store's for reading and writing
abbrev pub IsOfTaking : Fault → Type 0
IsOfTaking fault = IsOfOpening fault ⊎ IsOfMaking fault

-- ---- of a library

-- of bytes that are not UTF-8, or more than a text may have
abbrev pub IsOfBytes : Fault → Type 0
IsOfBytes fault = (fault ≡ faults.NotUtf8) ⊎ (fault ≡ faults.Parse (parsing.Limit limits.Text))

-- of reading a library's text
abbrev pub IsOfLibraryText : Fault → Type 0
IsOfLibraryText fault = IsOfReading fault ⊎ IsOfBytes fault

-- of a text that has no library
abbrev pub IsOfTree : Fault → Type 0
IsOfTree (faults.Parse error) = ⊤
IsOfTree (faults.Check error) = ⊤
IsOfTree other = ⊥

-- of reading a library
abbrev pub IsOfLibrary : Fault → Type 0
IsOfLibrary fault = IsOfLibraryText fault ⊎ IsOfTree fault

-- the same with a place in the text: that of a token that is not allowed there
abbrev pub IsOfPlace : Fault → Type 0
IsOfPlace (faults.At (parsing.Syntax byte) place) = ⊤
IsOfPlace other = ⊥

abbrev pub IsOfPlacedLibrary : Fault → Type 0
IsOfPlacedLibrary fault = IsOfLibrary fault ⊎ IsOfPlace fault

-- ---- of the commands

-- of making and writing lines
abbrev pub IsOfWriting : Fault → Type 0
IsOfWriting fault = (fault ≡ faults.Write) ⊎ (fault ≡ faults.Memory)

-- all faults of `check`
abbrev pub IsOfCheck : Fault → Type 0
IsOfCheck fault = IsOfPlacedLibrary fault ⊎ (fault ≡ faults.Write)

-- of formatting a disk: no call of that reads
abbrev pub IsOfFormatting : Fault → Type 0
IsOfFormatting faults.TooSmall = ⊤
IsOfFormatting faults.DeviceWrite = ⊤
IsOfFormatting faults.Memory = ⊤
IsOfFormatting other = ⊥

-- all faults of `format`
abbrev pub IsOfFormat : Fault → Type 0
IsOfFormat fault = IsOfLibrary fault ⊎ (IsOfTaking fault ⊎ IsOfFormatting fault)

-- of reading the store of a disk, with any library and format
abbrev pub IsOfInspection : Fault → Type 0
IsOfInspection faults.NotAStore = ⊤
IsOfInspection (faults.Damaged place) = ⊤
IsOfInspection faults.DeviceRead = ⊤
IsOfInspection faults.DeviceWrite = ⊤
IsOfInspection faults.Memory = ⊤
IsOfInspection other = ⊥

-- all faults of `dump`
abbrev pub IsOfDump : Fault → Type 0
IsOfDump fault = IsOfOpening fault ⊎ (IsOfInspection fault ⊎ IsOfWriting fault)

-- of upgrading the store of a disk to format 2
abbrev pub IsOfUpgrading : Fault → Type 0
IsOfUpgrading faults.TooSmall = ⊤
IsOfUpgrading faults.NotAStore = ⊤
IsOfUpgrading faults.AlreadyNew = ⊤
IsOfUpgrading (faults.Damaged place) = ⊤
IsOfUpgrading faults.DeviceRead = ⊤
IsOfUpgrading faults.DeviceWrite = ⊤
IsOfUpgrading faults.Memory = ⊤
IsOfUpgrading other = ⊥

-- all faults of `upgrade`
abbrev pub IsOfUpgrade : Fault → Type 0
IsOfUpgrade fault = IsOfTaking fault ⊎ IsOfUpgrading fault
