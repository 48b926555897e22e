-- What a body made of events.
use Rattle.std.proofs.Common.{◌≡◌, ℕ, true, false, true≢false, List, [], None, Result, Ok, Err, refl, sym, ap, ◌∙◌}
use Rattle.oa_image.specs.promise.Events.{event_image}
use Rattle.oa_model.specs.declared.hresult.HResult.{HResult}
use Rattle.oa_record.specs.promise.Asks.{Asks}
use Rattle.oa_record.specs.promise.Replies.{ReplyValue}
use Rattle.oa_record.specs.declared.request.Request.{Request}
use Rattle.oa_table.specs.declared.event.Event.{Event}
use Rattle.oa_table.specs.declared.fault.TableFault.{TableFault}
use Rattle.oa_table.specs.promise.Tables.{TableValue}
use Rattle.oa_decision.specs.declared.decision.Decision.{Decision}
use Rattle.oa_decision.specs.declared.decision.Decision.TheVariants as decisions
use Rattle.oa_decision.specs.declared.decision.LockChange.{LockChange}
use Rattle.oa_decision.specs.declared.plan.Plan.{Plan}
use Rattle.oa_decision.specs.declared.plan.Plan.TheVariants.{Answered, Change}
use Rattle.oa_decision.specs.declared.plan.Planned.{Planned}
use Rattle.oa_decision.specs.declared.refusal.Refusal.{Refusal}
use Rattle.oa_turn.specs.promise.Steps.{changed, outcome_of, relocked, relocking, outcome}
use Rattle.oa_decision.specs.promise.Limits.{allowed}
use Rattle.oa_turn.specs.Plans.{HasNoEvent, PlansChange}
use Rattle.oa_turn.specs.promise.Events.{HasEvent, change_bytes, is_done}
use Rattle.oa_decision.specs.promise.States.{State}
use Rattle.oa_decision.specs.promise.Decided.{decided}

module _ (old : State) (body : List ℕ) where
  -- a reply other than S_OK
  pub undone : (reply : ReplyValue) → is_done reply ≡ false → HasEvent old body reply []
  undone reply is = record { done = λ request plain asked done. absurd (true≢false (sym done ∙ is)); undone = λ none. refl }

  module _ (one_request : (body : List ℕ) (p q : Request) → Asks body p → Asks body q → p ≡ q) (request : Request) (asked : Asks body request) where
    -- an outcome without an event
    pub eventless : (due : Result Decision Refusal) (reply : ReplyValue) → decided old request ≡ due → (outcome_of old due).event ≡ None
        → HasEvent old body reply []
    eventless due reply is none = record {
      done = λ other plain asks done. ap change_bytes (sym none) ∙ ap (λ (d : Result Decision Refusal). change_bytes (outcome_of old d).event) (sym is)
          ∙ ap (λ (r : Request). change_bytes (outcome old r).event) (one_request body request other asked asks);
      undone = λ refused. refl;
    }

    pub relocked_eventless : (change : LockChange) (fields : List ℕ) (reply : ReplyValue) → decided old request ≡ Ok (decisions.Relock change fields)
        → HasEvent old body reply []
    relocked_eventless change fields reply is = eventless (Ok (decisions.Relock change fields)) reply is (by (relocked change old.table))
      where
        by : (due : Result TableValue TableFault) → (relocking change fields due).event ≡ None
        by (Ok table) = refl
        by (Err fault) = refl

    -- a change that is made
    pub has_event : (planned : Planned) (table : TableValue) (reply : ReplyValue) → decided old request ≡ Ok (decisions.Change planned.event planned.fields)
        → allowed old.bank planned.event old.table ≡ Ok table → is_done reply ≡ true
        → HasEvent old body reply (event_image planned.event)
    has_event planned table reply is makes told = record {
      done = λ other plain asks done. ap (λ (r : Result TableValue HResult). change_bytes (changed planned.event planned.fields r).event) (sym makes)
          ∙ ap (λ (d : Result Decision Refusal). change_bytes (outcome_of old d).event) (sym is)
          ∙ ap (λ (r : Request). change_bytes (outcome old r).event) (one_request body request other asked asks);
      undone = λ refused. absurd (true≢false (sym told ∙ refused));
    }

    pub change_eventless : (tag : ℕ) (event : Event) (fields : List ℕ) (plan : Plan) → decided old request ≡ Ok (decisions.Change event fields)
        → PlansChange old tag event fields plan → HasNoEvent old body plan
    change_eventless tag event fields (Answered reply) is plans = eventless (Ok (decisions.Change event fields)) reply is (rw plans.1 refl)
    change_eventless tag event fields (Change planned) is plans = tt
