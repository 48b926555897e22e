-- Which lock a body changes. (This project's choice.)
use Rattle.std.specs.Prelude.{◌≡◌, ℕ, Bool, true, false, if◌then◌else◌, List, Option, Some, None, Result, Ok, Err}
use Rattle.oa_record.specs.promise.Asks.{Asks, request_opcode}
use Rattle.oa_record.specs.declared.opcode.Opcode.{Opcode}
use Rattle.oa_record.specs.declared.opcode.Opcode.TheVariants as opcodes
use Rattle.oa_record.specs.declared.opcode.ByCall.TheVariants as by_call
use Rattle.oa_record.specs.declared.request.Request.{Request}
use Rattle.oa_decision.specs.declared.decision.Decision.{Decision}
use Rattle.oa_decision.specs.declared.decision.Decision.TheVariants.{Answer, Change, Relock}
use Rattle.oa_decision.specs.declared.decision.LockChange.{LockChange}
use Rattle.oa_decision.specs.declared.refusal.Refusal.{Refusal}
use Rattle.oa_decision.specs.promise.Decided.{decided}
use Rattle.oa_decision.specs.promise.States.{State}

-- the change of a lock that is decided
abbrev pub lock_decided : Result Decision Refusal → Option LockChange
lock_decided (Err refusal) = None
lock_decided (Ok (Answer code fields)) = None
lock_decided (Ok (Change event fields)) = None
lock_decided (Ok (Relock change fields)) = Some change

-- only LOCK and UNLOCK change one
abbrev pub is_lock : Opcode → Bool
is_lock (opcodes.ByCall by_call.Lock) = true
is_lock (opcodes.ByCall by_call.Unlock) = true
is_lock opcode = false

abbrev pub changes_lock : Request → Bool
changes_lock request = is_lock (request_opcode request)

-- the change of a lock that a request asks for, if its library and its table allow the request
abbrev pub lock_asked_by : State → Request → Option LockChange
lock_asked_by state request = if changes_lock request then lock_decided (decided state request) else None

-- the same for a body
pub record AsksLock (state : State) (body : List ℕ) (change : LockChange) : Type 0 where
  pub request : Request
  pub asked : Asks body request
  pub is : lock_asked_by state request ≡ Some change
