-- The results of applying groups of events. (This project's choice.)
use Rattle.std.specs.Prelude.{◌≡◌, ℕ, List, Result, Ok, Err, ⊤}
use Rattle.oa_disk.specs.promise.Disk.{HasCounted}
use Rattle.oa_formats.specs.declared.fault.ImageFault.{ImageFault}
use Rattle.oa_formats.specs.declared.fault.ImageFault.TheVariants as images
use Rattle.oa_table.specs.declared.event.Event.{Event}
use Rattle.oa_table.specs.declared.fault.TableFault.{TableFault}
use Rattle.oa_table.specs.declared.fault.TableFault.TheVariants as tables
use Rattle.oa_table.specs.promise.Tables.{TableValue}
use Rattle.oa_journal.specs.declared.bank.BankFault.{BankFault}
use Rattle.oa_journal.specs.declared.bank.BankFault.TheVariants as banks
use Rattle.oa_journal.specs.promise.Bank.{applied_all, Replays}

-- there is no new table; nothing is stated if an allocation failed
abbrev pub IsRefused : TableFault → Result TableValue TableFault → Type 0
IsRefused tables.Memory due = ⊤
IsRefused fault due = (after : TableValue) → due ≡ Ok after → ⊥

-- Events turn the old table into the new one, or one of them does not apply.
abbrev pub AreApplied : {U : Type 0} → List Event → TableValue → TableValue → Result U TableFault → Type 0
AreApplied events old new (Ok u) = applied_all events old ≡ Ok new
AreApplied events old new (Err fault) = IsRefused fault (applied_all events old)

-- A group turns the old table into the new one, or is none that applies; nothing is stated if an allocation failed.
abbrev pub IsReplay : {U : Type 0} → List ℕ → TableValue → TableValue → Result U ImageFault → Type 0
IsReplay group old new (Ok u) = Replays group old new
IsReplay group old new (Err (images.Damaged place)) = (after : TableValue) → Replays group old after → ⊥
IsReplay group old new (Err images.Memory) = ⊤

-- the refusal of an event, as damage of the group that has it
abbrev pub of_change : TableFault → ℕ → ImageFault
of_change tables.Memory place = images.Memory
of_change fault place = images.Damaged place

-- a fault of the device is returned only if a call has failed, and any other only if none has
abbrev pub IsCausedBankFault : ℕ → ℕ → BankFault → Type 0
IsCausedBankFault before now (banks.Damaged place) = now ≡ before
IsCausedBankFault before now (banks.Device fault) = HasCounted before now
IsCausedBankFault before now banks.Memory = now ≡ before
