-- Plans for a call with no more than a new value. (This project's choice.)
use Rattle.std.specs.Prelude.{◌≡◌, ◌⊎◌, List, [], ℕ, ℤ, None, Result, Ok}
use Rattle.oa_coerce.specs.declared.fault.CoerceFault.{CoerceFault}
use Rattle.oa_model.specs.promise.Codes.{e_outofmemory, s_ok}
use Rattle.oa_model.specs.declared.var_type.ValueType.{ValueType}
use Rattle.oa_record.specs.declared.request.Request.{Request}
use Rattle.oa_record.specs.promise.Replies.{ReplyValue}
use Rattle.oa_table.specs.declared.event.Event.{Event}
use Rattle.oa_table.specs.declared.event.Event.TheVariants as events
use Rattle.oa_table.specs.declared.name.CellName.{CellName}
use Rattle.oa_table.specs.Events.{BringsNoLocks}
use Rattle.oa_variant.specs.declared.variant.Variant.{Variant}
use Rattle.oa_variant.specs.promise.Variants.{unlocked}
use Rattle.oa_decision.specs.declared.decision.Decision.TheVariants as decisions
use Rattle.oa_decision.specs.declared.plan.ValuePlan.{ValuePlan}
use Rattle.oa_decision.specs.declared.plan.ValuePlan.TheVariants.{Answered, Put}
use Rattle.oa_decision.specs.declared.plan.ValuePut.{ValuePut}
use Rattle.oa_decision.specs.promise.Invoke.{reply_value}
use Rattle.oa_decision.specs.promise.States.{State}
use Rattle.oa_decision.specs.promise.Decided.{RequestTakesMemory, decided, refusal}

-- a reply of S_OK with these fields
abbrev pub reply_told : ℕ → List ℕ → ReplyValue
reply_told tag fields = record { tag = tag; code = s_ok; index = None; body = fields }

-- the cell of a property without parameters
abbrev pub keyless_cell : ℕ → List ℕ → ℤ → CellName
keyless_cell object interface dispid =
    record { object = object; place = record { interface = interface; dispid = dispid; key = [] } }

abbrev pub put_event : ValuePut → Event
put_event put = events.Put (keyless_cell put.object put.interface put.dispid) put.value

-- a request is answered with the decided fields, or with out of memory; or this change is decided
abbrev pub PlansValue : State → ℕ → Request → ValuePlan → Type 0
PlansValue state tag request (Answered reply) =
    ((fields : List ℕ) × (decided state request ≡ Ok (decisions.Answer s_ok fields)) × (reply ≡ reply_told tag fields))
    ⊎ (RequestTakesMemory state request × (reply ≡ refusal tag e_outofmemory None))
PlansValue state tag request (Put put) =
    (decided state request ≡ Ok (decisions.Change (put_event put) [])) × BringsNoLocks (put_event put)

-- the reply contains the value of a cell, or reports out of memory
abbrev pub PlansGet : State → ℕ → CellName → ValueType → ValuePlan → Type 0
PlansGet state tag name declared (Answered reply) =
    (reply ≡ reply_told tag (reply_value state name declared)) ⊎ (reply ≡ refusal tag e_outofmemory None)
PlansGet state tag name declared (Put put) = ⊥

-- a cell is set to a value that was coerced
abbrev pub PlansPut : ℕ → List ℕ → ℤ → Result Variant CoerceFault → ValuePlan → Type 0
PlansPut object interface dispid coerced (Answered reply) = ⊥
PlansPut object interface dispid coerced (Put put) =
    (value : Variant) × (coerced ≡ Ok value)
    × (put ≡ record { object = object; interface = interface; dispid = dispid; value = unlocked value })
    × BringsNoLocks (put_event put)
