-- What is planned of a call that brings no more than a new value, as a turn.
use Rattle.std.proofs.Common.{◌≡◌, inl, inr, ℕ, List, [], refl}
use Rattle.oa_record.specs.promise.Asks.{Asks, tag_at}
use Rattle.oa_record.specs.promise.Replies.{ReplyValue}
use Rattle.oa_record.specs.declared.request.Request.{Request}
use Rattle.oa_record.specs.declared.opcode.ByCall.TheVariants.{Invoke}
use Rattle.oa_record.specs.declared.opcode.ByNumber.TheVariants.{Release}
use Rattle.oa_record.specs.declared.request.Request.TheVariants.{ByCall, ByNumber}
use Rattle.oa_decision.specs.promise.States.{State}
use Rattle.oa_decision.specs.declared.plan.ValuePlan.{ValuePlan}
use Rattle.oa_decision.specs.declared.plan.ValuePlan.TheVariants.{Answered, Put}
use Rattle.oa_decision.specs.declared.plan.ValuePut.{ValuePut}
use Rattle.oa_turn.specs.promise.Events.{HasEvent}
use Rattle.oa_turn.specs.Plans.{IsDrafted, PlansCall, put_planned}
use Rattle.oa_turn.specs.promise.Turns.{Ordinary}
use Rattle.oa_turn.proofs.Eventless.{eventless, undone}
use Rattle.oa_turn.proofs.Refused.{lacks, told}

module _ (old : State) (body : List ℕ) where
  -- it was answered, and nothing changes
  pub answers : (reply : ReplyValue) → PlansCall old body (Answered reply) → Ordinary old body reply old
  answers reply (call, asked, inl is) = told old body (ByCall Invoke call) asked reply _ is.0 is.1 is.2
  answers reply (call, asked, inr wants) = lacks old body (ByCall Invoke call) asked reply wants.0 wants.1

  pub drafted : (put : ValuePut) → PlansCall old body (Put put) → IsDrafted old body (put_planned (tag_at body) put)
  drafted put (call, asked, is) = record { request = ByCall Invoke call; asked = asked; tag = refl; decided_is = is.0 }

  module _ (one : (body : List ℕ) (p q : Request) → Asks body p → Asks body q → p ≡ q) where
    pub quiet : (reply : ReplyValue) → PlansCall old body (Answered reply) → HasEvent old body reply []
    quiet reply (call, asked, inl is) = eventless old body one (ByCall Invoke call) asked _ reply is.1 refl
    quiet reply (call, asked, inr wants) = undone old body reply (rw wants.1 refl)

    -- it is no RELEASE
    pub no_release : (plan : ValuePlan) (number : ℕ) → PlansCall old body plan → Asks body (ByNumber Release number) → ⊥
    no_release plan number (call, asked, is) of = let same = one body (ByCall Invoke call) (ByNumber Release number) asked of in absurd cc
