-- Definitions for contracts and proofs, beside promise/Plans.
use Rattle.std.specs.Prelude.{◌≡◌, List, [], ℕ, None, Ok, Err, IsOk, ⊤}
use Rattle.oa_model.specs.promise.Codes.{e_outofmemory}
use Rattle.oa_model.specs.declared.hresult.HResult.{HResult}
use Rattle.oa_record.specs.declared.request.Request.{Request}
use Rattle.oa_record.specs.declared.request.Call.{Call}
use Rattle.oa_record.specs.declared.opcode.ByCall.TheVariants.{Invoke}
use Rattle.oa_record.specs.declared.opcode.ByNumber.TheVariants.{Release}
use Rattle.oa_record.specs.declared.request.Request.TheVariants.{ByCall, ByNumber}
use Rattle.oa_record.specs.promise.Replies.{ReplyValue}
use Rattle.oa_record.specs.promise.Asks.{Asks, tag_at}
use Rattle.oa_table.specs.declared.event.Event.{Event}
use Rattle.oa_table.specs.Events.{BringsNoLocks}
use Rattle.oa_decision.specs.declared.decision.Decision.TheVariants as decisions
use Rattle.oa_decision.specs.declared.plan.Plan.{Plan}
use Rattle.oa_decision.specs.declared.plan.Plan.TheVariants.{Answered, Change}
use Rattle.oa_decision.specs.declared.plan.Planned.{Planned}
use Rattle.oa_decision.specs.declared.plan.ValuePlan.{ValuePlan}
use Rattle.oa_decision.specs.declared.plan.ValuePut.{ValuePut}
use Rattle.oa_decision.specs.promise.Limits.{allowed}
use Rattle.oa_decision.specs.ValuePlans.{PlansValue, put_event}
use Rattle.oa_turn.specs.promise.Events.{HasEvent}
use Rattle.oa_decision.specs.promise.States.{State}
use Rattle.oa_decision.specs.promise.Decided.{decided, refusal}
use Rattle.oa_turn.specs.promise.Turns.{Ordinary}
use Rattle.oa_turn.specs.promise.Plans.{HoldsSame}

-- the body is a call, and this is the plan for it
abbrev pub PlansCall : State → List ℕ → ValuePlan → Type 0
PlansCall state body plan =
    (call : Call) × Asks body (ByCall Invoke call) × PlansValue state (tag_at body) (ByCall Invoke call) plan

-- a put of a value as a change whose reply has no fields
abbrev pub put_planned : ℕ → ValuePut → Planned
put_planned tag put = record { tag = tag; event = put_event put; fields = [] }

-- the body is a request, and this is the decided change
pub record IsDrafted (state : State) (body : List ℕ) (planned : Planned) : Type 0 where
  pub request : Request
  pub asked : Asks body request
  pub tag : planned.tag ≡ tag_at body
  pub decided_is : decided state request ≡ Ok (decisions.Change planned.event planned.fields)

-- the body is a request, this is the decided change, and it is allowed
pub record IsPlanned (state : State) (body : List ℕ) (planned : Planned) : Type 0 where
  pub drafted : IsDrafted state body planned
  pub allows : IsOk (allowed state.bank planned.event state.table)

-- the turn was taken, and changed nothing in images; or a change was decided
abbrev pub Drafts : State → List ℕ → State → Plan → Type 0
Drafts old body new (Answered reply) = Ordinary old body reply new × HoldsSame old new
Drafts old body new (Change planned) = IsDrafted old body planned × BringsNoLocks planned.event × (new ≡ old)

-- the turn was taken, and changed nothing in images; or a change is to be made
abbrev pub Plans : State → List ℕ → State → Plan → Type 0
Plans old body new (Answered reply) = Ordinary old body reply new × HoldsSame old new
Plans old body new (Change planned) = IsPlanned old body planned × BringsNoLocks planned.event × (new ≡ old)

-- a decided change is refused, or to be made
abbrev pub PlansChange : State → ℕ → Event → List ℕ → Plan → Type 0
PlansChange state tag event fields (Answered reply) =
    (code : HResult) × (allowed state.bank event state.table ≡ Err code) × (reply ≡ refusal tag code None)
PlansChange state tag event fields (Change planned) =
    (planned ≡ record { tag = tag; event = event; fields = fields }) × IsOk (allowed state.bank event state.table)

-- a RELEASE allocates nothing: its reply is not out of memory
abbrev pub ReleasesWithoutMemory : List ℕ → ReplyValue → Type 0
ReleasesWithoutMemory body reply = (number : ℕ) → Asks body (ByNumber Release number) → reply.code ≡ e_outofmemory → ⊥

abbrev pub PlansWithoutMemory : List ℕ → Plan → Type 0
PlansWithoutMemory body (Answered reply) = ReleasesWithoutMemory body reply
PlansWithoutMemory body (Change planned) = ⊤

-- a request that was answered made no event
abbrev pub HasNoEvent : State → List ℕ → Plan → Type 0
HasNoEvent old body (Answered reply) = HasEvent old body reply []
HasNoEvent old body (Change planned) = ⊤
