-- The turn of a body, but for a planned change.
use Rattle.std.proofs.Common.{◌≡◌, inl, ℕ, List, Result, Ok, refl, sym, ap, ◌∙◌}
use Rattle.oa_record.specs.declared.request.Request.{Request}
use Rattle.oa_record.specs.promise.Asks.{Asks, tag_at}
use Rattle.oa_record.specs.promise.Replies.{ReplyValue}
use Rattle.oa_table.specs.declared.event.Event.{Event}
use Rattle.oa_table.specs.Events.{BringsNoLocks}
use Rattle.oa_decision.specs.declared.decision.Decision.{Decision}
use Rattle.oa_decision.specs.declared.decision.Decision.TheVariants.{Change}
use Rattle.oa_decision.specs.declared.plan.Plan.{Plan}
use Rattle.oa_decision.specs.declared.plan.Plan.TheVariants.{Answered, Change as AChange}
use Rattle.oa_decision.specs.declared.refusal.Refusal.{Refusal}
use Rattle.oa_turn.specs.promise.Steps.{after_outcome, outcome_of, reply_with}
use Rattle.oa_turn.specs.Plans.{Plans, PlansChange}
use Rattle.oa_decision.specs.promise.States.{State}
use Rattle.oa_decision.specs.promise.Decided.{decided}
use Rattle.oa_turn.specs.promise.Turns.{Ordinary}

module _ (old : State) (body : List ℕ) (request : Request) (asked : Asks body request) where
  -- what is decided is done
  steps : (due : Result Decision Refusal) (reply : ReplyValue) (new : State) → decided old request ≡ due → reply ≡ reply_with (tag_at body) (outcome_of old due)
      → new ≡ after_outcome old (outcome_of old due)
      → Ordinary old body reply new
  steps due reply new is told leaves = inl (record {
    request = request;
    asked = asked;
    answers = told ∙ ap (λ d. reply_with (tag_at body) (outcome_of old d)) (sym is);
    leaves = leaves ∙ ap (λ d. after_outcome old (outcome_of old d)) (sym is);
  })

-- a change that was decided
pub change_planned : (old : State) (body : List ℕ) (request : Request) (event : Event) (fields : List ℕ) (plan : Plan) → Asks body request
    → decided old request ≡ Ok (Change event fields) → BringsNoLocks event
    → PlansChange old (tag_at body) event fields plan → Plans old body old plan
change_planned old body request event fields (Answered reply) asked is none told = (
  steps old body request asked (Ok (Change event fields)) reply old is (told.2 ∙ rw told.1 refl) (rw told.1 refl),
  record { table = refl; library = refl },
)
change_planned old body request event fields (AChange planned) asked is none told = (
  rw told.0 (record { drafted = record { request = request; asked = asked; tag = refl; decided_is = is }; allows = told.1 }),
  rw told.0 none,
  refl,
)
