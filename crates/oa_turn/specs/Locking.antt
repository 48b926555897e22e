-- Definitions for contracts and proofs, beside promise/Locking.
use Rattle.std.specs.Prelude.{◌≡◌, ◌⊎◌, ℕ, Bool, false, List, Option, Some, None, Result, Ok, Err}
use Rattle.oa_record.specs.promise.Asks.{MayStarve}
use Rattle.oa_record.specs.Opcodes.{opcode_in}
use Rattle.oa_record.specs.declared.opcode.Opcode.{Opcode}
use Rattle.oa_record.specs.declared.request.Request.{Request}
use Rattle.oa_table.specs.declared.fault.TableFault.{TableFault}
use Rattle.oa_table.specs.promise.Tables.{TableValue}
use Rattle.oa_decision.specs.declared.decision.LockChange.{LockChange}
use Rattle.oa_decision.specs.promise.Decided.{RequestTakesMemory}
use Rattle.oa_decision.specs.promise.States.{State}
use Rattle.oa_turn.specs.promise.Turns.{MayLack}
use Rattle.oa_turn.specs.promise.Locking.{is_lock, lock_asked_by, AsksLock}

abbrev pub is_lock_in : Option Opcode → Bool
is_lock_in None = false
is_lock_in (Some opcode) = is_lock opcode

-- the opcode in the body is one of them
abbrev pub asks_lock : List ℕ → Bool
asks_lock body = is_lock_in (opcode_in body)

-- what is found of it; or memory was wanted, as the body's turn may want it
abbrev pub FindsLock : {E : Type 0} → State → List ℕ → Result (Option LockChange) E → Type 0
FindsLock state body (Ok None) = (change : LockChange) → AsksLock state body change → ⊥
FindsLock state body (Ok (Some change)) = AsksLock state body change
FindsLock state body (Err e) = MayStarve body ⊎ MayLack state body

-- the same for a request
abbrev pub FindsLockBy : {E : Type 0} → State → Request → Result (Option LockChange) E → Type 0
FindsLockBy state request (Ok found) = found ≡ lock_asked_by state request
FindsLockBy state request (Err e) = RequestTakesMemory state request

-- the table without one of its locks, or unchanged if it has none
abbrev pub table_or : TableValue → Result TableValue TableFault → TableValue
table_or table (Ok new) = new
table_or table (Err fault) = table
