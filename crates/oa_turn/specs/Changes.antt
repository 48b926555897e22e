-- Changes of a table, and of a state. (This project's choice.)
use Rattle.std.specs.Prelude.{◌≡◌, ◌⊎◌, ℕ, Result, Ok, Err, IsOk}
use Rattle.oa_model.specs.declared.hresult.HResult.{HResult}
use Rattle.oa_model.specs.promise.Codes.{e_outofmemory}
use Rattle.oa_table.specs.declared.event.Event.{Event}
use Rattle.oa_table.specs.declared.fault.TableFault.{TableFault}
use Rattle.oa_table.specs.promise.Events.{applied}
use Rattle.oa_table.specs.promise.Tables.{TableValue}
use Rattle.oa_decision.specs.declared.decision.LockChange.{LockChange}
use Rattle.oa_decision.specs.promise.Limits.{allowed}
use Rattle.oa_decision.specs.promise.States.{State}
use Rattle.oa_turn.specs.promise.Steps.{relocked}

-- an event is applied to the table, or nothing changes
abbrev pub MakesTable : {E : Type 0} → Event → TableValue → TableValue → Result (Unit {0}) E → Type 0
MakesTable event old new (Ok u) = applied event old ≡ Ok new
MakesTable event old new (Err e) = new ≡ old

-- an event is applied to the table of a state, or nothing changes
abbrev pub MakesChange : {E : Type 0} → Event → State → State → Result (Unit {0}) E → Type 0
MakesChange event old new (Ok u) = (applied event old.table ≡ Ok new.table) × (new ≡ record old { table = new.table })
MakesChange event old new (Err e) = new ≡ old

-- a lock is changed, or nothing changes and the reason is returned; nothing is allocated
abbrev pub RelocksTable : LockChange → TableValue → TableValue → Result (Unit {0}) TableFault → Type 0
RelocksTable change old new (Ok u) = relocked change old ≡ Ok new
RelocksTable change old new (Err fault) = (new ≡ old) × (relocked change old ≡ Err fault)

-- An event is applied if it is allowed. Otherwise the reason is returned, or out of memory, and nothing changes.
abbrev pub ChangesTable : ℕ → Event → TableValue → TableValue → Result (Unit {0}) HResult → Type 0
ChangesTable bank event old new (Ok u) = allowed bank event old ≡ Ok new
ChangesTable bank event old new (Err code) =
    (new ≡ old) × ((allowed bank event old ≡ Err code) ⊎ ((code ≡ e_outofmemory) × IsOk (allowed bank event old)))
