-- The bytes of a library's file, and the faults with the name of a file as a line shows it. (This project's choice.)
use Rattle.std.specs.Prelude.{◌≡◌, ◌≤◌, ℕ, List, length, ⊤, string_bytes}
use Rattle.oa_model.specs.promise.Limits.{max_library_bytes}
use Rattle.oa_commands.specs.Shown.{shown_name}
use Rattle.oa_commands.specs.declared.fault.Fault.{Fault}
use Rattle.oa_commands.specs.declared.fault.Fault.TheVariants as faults

-- they are not more than a library's text may have
abbrev pub IsWithinLimit : List ℕ → Type 0
IsWithinLimit bytes = length bytes ≤ max_library_bytes

-- of a file that cannot be read
abbrev pub TellsUnread : List ℕ → Fault → Type 0
TellsUnread path (faults.CannotRead name reason) = string_bytes name ≡ shown_name path
TellsUnread path faults.Memory = ⊤
TellsUnread path other = ⊥

-- of one that another process has locked
abbrev pub TellsUse : List ℕ → Fault → Type 0
TellsUse path (faults.InUse name) = string_bytes name ≡ shown_name path
TellsUse path faults.Memory = ⊤
TellsUse path other = ⊥

-- of one that cannot be created, lengthened or written in the required length
abbrev pub TellsUnwritten : List ℕ → Fault → Type 0
TellsUnwritten path (faults.CannotWrite name reason) = string_bytes name ≡ shown_name path
TellsUnwritten path faults.Memory = ⊤
TellsUnwritten path other = ⊥
