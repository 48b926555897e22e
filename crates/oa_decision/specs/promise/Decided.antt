-- The decision about a request: the reply, the change that it asks for, or why it is refused. (This project's
-- choice.)
use Rattle.std.specs.Prelude.{◌⊎◌, ℕ, IsOk, [], Option, Result, Ok, Err}
use Rattle.oa_model.specs.declared.hresult.HResult.{HResult}
use Rattle.oa_record.specs.declared.request.Request.{Request}
use Rattle.oa_record.specs.declared.request.Request.TheVariants as requests
use Rattle.oa_record.specs.declared.opcode.ByCall.TheVariants as by_call
use Rattle.oa_record.specs.declared.opcode.ByNumber.TheVariants as by_number
use Rattle.oa_record.specs.promise.Replies.{ReplyValue}
use Rattle.oa_typelib.specs.declared.access.Access.TheVariants.{Flags, Get, Put}
use Rattle.oa_decision.specs.declared.decision.Decision.{Decision}
use Rattle.oa_decision.specs.declared.decision.Decision.TheVariants.{Answer, Change, Relock}
use Rattle.oa_decision.specs.declared.refusal.Refusal.{Refusal}
use Rattle.oa_decision.specs.promise.Cells.{FindingTakesMemory}
use Rattle.oa_decision.specs.promise.Create.{creation}
use Rattle.oa_decision.specs.promise.GetElement.{element_got}
use Rattle.oa_decision.specs.promise.Invoke.{invocation}
use Rattle.oa_decision.specs.promise.Limits.{allowed}
use Rattle.oa_decision.specs.promise.Lock.{locking}
use Rattle.oa_decision.specs.promise.LookUps.{look_up}
use Rattle.oa_decision.specs.promise.PutElement.{element_put}
use Rattle.oa_decision.specs.promise.Queries.{answered}
use Rattle.oa_decision.specs.promise.Redimension.{IsOfNeverPut, redimension}
use Rattle.oa_decision.specs.promise.Release.{ending}
use Rattle.oa_decision.specs.promise.States.{State}
use Rattle.oa_decision.specs.promise.TypeInfo.{information}
use Rattle.oa_decision.specs.promise.Unlock.{unlocking}

-- the decision about a request
abbrev pub decided : State → Request → Result Decision Refusal
decided state (requests.Create class) = creation state class
decided state (requests.ByNumber by_number.Release number) = ending number
decided state (requests.GetIds call) = look_up state call
decided state (requests.ByCall by_call.Invoke call) = invocation state call
decided state (requests.GetElement call indices) = element_got state call indices
decided state (requests.PutElement call indices value) = element_put state call indices value
decided state (requests.Redimension call bound) = redimension state call bound
decided state (requests.ByCall by_call.Lock call) = locking state call
decided state (requests.ByCall by_call.Unlock call) = unlocking state call
decided state (requests.ByNumber by_number.TypeInfo index) = information state index
decided state (requests.Query query) = answered state query

-- a reply without fields
abbrev pub refusal : ℕ → HResult → Option ℕ → ReplyValue
refusal tag code index = record { tag = tag; code = code; index = index; body = [] }

-- Deciding a request allocates: for the arguments of a call, if they are bound; for the fields of a reply, if it has
-- some; for the zero array of a cell that was never put, if a REDIM changes it.
abbrev pub DecidingTakesMemory : State → Request → Type 0
DecidingTakesMemory state (requests.Create class) = IsOk (creation state class)
DecidingTakesMemory state (requests.ByNumber by_number.Release number) = ⊥
DecidingTakesMemory state (requests.GetIds call) = IsOk (look_up state call)
DecidingTakesMemory state (requests.ByCall by_call.Invoke call) =
    FindingTakesMemory state call (Flags call.head.flags) ⊎ IsOk (invocation state call)
DecidingTakesMemory state (requests.GetElement call indices) =
    FindingTakesMemory state call Get ⊎ IsOk (element_got state call indices)
DecidingTakesMemory state (requests.PutElement call indices value) = FindingTakesMemory state call Put
DecidingTakesMemory state (requests.Redimension call bound) =
    FindingTakesMemory state call Put ⊎ IsOfNeverPut state call
DecidingTakesMemory state (requests.ByCall by_call.Lock call) =
    FindingTakesMemory state call Get ⊎ IsOk (locking state call)
DecidingTakesMemory state (requests.ByCall by_call.Unlock call) =
    FindingTakesMemory state call Get ⊎ IsOk (unlocking state call)
DecidingTakesMemory state (requests.ByNumber by_number.TypeInfo index) = IsOk (information state index)
DecidingTakesMemory state (requests.Query query) = IsOk (answered state query)

-- a change allocates if the table may be changed so
abbrev pub ChangingTakesMemory : State → Result Decision Refusal → Type 0
ChangingTakesMemory state (Ok (Change event fields)) = IsOk (allowed state.bank event state.table)
ChangingTakesMemory state (Ok (Answer code fields)) = ⊥
ChangingTakesMemory state (Ok (Relock change fields)) = ⊥
ChangingTakesMemory state (Err refusal) = ⊥

-- deciding a request or making its change allocates: only then may the reply be out of memory
abbrev pub RequestTakesMemory : State → Request → Type 0
RequestTakesMemory state request = DecidingTakesMemory state request ⊎ ChangingTakesMemory state (decided state request)
