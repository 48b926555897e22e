-- The step of a request: its outcome, which determines its reply and the next state. A refused request changes
-- nothing. (This project's choice.)
use Rattle.std.specs.Prelude.{ℕ, List, [], Option, Some, None, Result, Ok, Err}
use Rattle.oa_model.specs.declared.hresult.HResult.{HResult}
use Rattle.oa_model.specs.promise.Codes.{s_ok}
use Rattle.oa_record.specs.declared.request.Request.{Request}
use Rattle.oa_record.specs.promise.Replies.{ReplyValue}
use Rattle.oa_table.specs.declared.event.Event.{Event}
use Rattle.oa_table.specs.declared.fault.TableFault.{TableFault}
use Rattle.oa_table.specs.promise.Events.{applied}
use Rattle.oa_table.specs.promise.Faults.{table_code}
use Rattle.oa_table.specs.promise.Locks.{with_lock, without_lock}
use Rattle.oa_table.specs.promise.Tables.{TableValue}
use Rattle.oa_decision.specs.declared.decision.Decision.{Decision}
use Rattle.oa_decision.specs.declared.decision.Decision.TheVariants.{Answer, Change, Relock}
use Rattle.oa_decision.specs.declared.decision.LockChange.{LockChange}
use Rattle.oa_decision.specs.declared.decision.LockChange.TheVariants.{Lock, Unlock}
use Rattle.oa_decision.specs.declared.refusal.Refusal.{Refusal}
use Rattle.oa_decision.specs.promise.Decided.{decided}
use Rattle.oa_decision.specs.promise.Limits.{allowed}
use Rattle.oa_decision.specs.promise.States.{State}

-- the table with a lock more or fewer, or why there is none
abbrev pub relocked : LockChange → TableValue → Result TableValue TableFault
relocked (Lock name) table = with_lock name table
relocked (Unlock name) table = without_lock name table

-- The change that is made, and the contents of the reply. An event changes what images contain; a change of locks
-- does not, and it ends with the session.
pub record Outcome : Type 0 where
  pub event : Option Event
  pub locks : Option LockChange
  pub code : HResult
  pub index : Option ℕ
  pub fields : List ℕ

abbrev pub refused_outcome : Refusal → Outcome
refused_outcome r = record { event = None; locks = None; code = r.code; index = r.index; fields = [] }

-- a change is refused, or made
abbrev pub changed : Event → List ℕ → Result TableValue HResult → Outcome
changed event fields (Ok table) =
    record { event = Some event; locks = None; code = s_ok; index = None; fields = fields }
changed event fields (Err code) = refused_outcome (record { code = code; index = None })

-- a change of locks is refused, or made
abbrev pub relocking : LockChange → List ℕ → Result TableValue TableFault → Outcome
relocking change fields (Ok table) =
    record { event = None; locks = Some change; code = s_ok; index = None; fields = fields }
relocking change fields (Err fault) = refused_outcome (record { code = table_code fault; index = None })

abbrev pub outcome_of : State → Result Decision Refusal → Outcome
outcome_of state (Err r) = refused_outcome r
outcome_of state (Ok (Answer code fields)) =
    record { event = None; locks = None; code = code; index = None; fields = fields }
outcome_of state (Ok (Change event fields)) = changed event fields (allowed state.bank event state.table)
outcome_of state (Ok (Relock change fields)) = relocking change fields (relocked change state.table)

-- the state after a change
abbrev pub with_table : State → Result TableValue TableFault → State
with_table state (Ok table) = record state { table = table }
with_table state (Err fault) = state

abbrev pub after_event : State → Option Event → State
after_event state None = state
after_event state (Some event) = with_table state (applied event state.table)

abbrev pub after_locks : State → Option LockChange → State
after_locks state None = state
after_locks state (Some change) = with_table state (relocked change state.table)

-- the state after an outcome, which changes the table by an event or by a lock, or not at all
abbrev pub after_outcome : State → Outcome → State
after_outcome state o = after_locks (after_event state o.event) o.locks

-- the outcome of a request in a state
abbrev pub outcome : State → Request → Outcome
outcome state request = outcome_of state (decided state request)

abbrev pub reply_with : ℕ → Outcome → ReplyValue
reply_with tag o = record { tag = tag; code = o.code; index = o.index; body = o.fields }

-- the reply to a request with this tag
abbrev pub reply_to : State → ℕ → Request → ReplyValue
reply_to state tag request = reply_with tag (outcome state request)

-- the state after a request
abbrev pub state_after : State → Request → State
state_after state request = after_outcome state (outcome state request)
