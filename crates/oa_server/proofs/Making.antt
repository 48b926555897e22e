-- A turn that makes an event.
use Rattle.std.proofs.Common.{◌≡◌, inl, inr, ℕ, ◌<◌, Bool, true, false, true≢false, List, length, refl, sym, ap, ◌∙◌, subst, arith}
use Rattle.oa_group_commit.specs.promise.Groups.{MakesEvent}
use Rattle.oa_record.specs.promise.Asks.{Asks}
use Rattle.oa_record.specs.promise.Replacement.{is_replacement}
use Rattle.oa_record.specs.declared.request.Request.{Request}
use Rattle.oa_turn.specs.promise.Events.{change_bytes, is_done}
use Rattle.oa_decision.specs.promise.States.{State}
use Rattle.oa_turn.specs.promise.Steps.{outcome}
use Rattle.oa_turn.specs.promise.Turns.{Ordinary, Turn}
use Rattle.oa_server.specs.Answers.{MakesNoEvent}
use Rattle.oa_server.specs.promise.ServerMachine.{server_machine}

-- where a turn of the body makes an event, one comes of what it asks
pub event_of : (state : State) (body : List ℕ) → is_replacement body ≡ false → MakesEvent server_machine state body → (request : Request) × Asks body request
    × (0 < length (change_bytes (outcome state request).event))
event_of state body plain makes = by (is_done makes.reply) refl (ordinary makes.turn.turn)
  where
    ordinary : Turn state body makes.reply makes.after → Ordinary state body makes.reply makes.after
    ordinary (inl one) = one.turn
    ordinary (inr one) = absurd (true≢false (sym one.kind ∙ plain))

    by : (b : Bool) → is_done makes.reply ≡ b → Ordinary state body makes.reply makes.after → (request : Request) × Asks body request
        × (0 < length (change_bytes (outcome state request).event))
    by false is one = absurd (omega (arith, makes.some, ap (λ (l : List ℕ). length l) (makes.turn.made.undone is)))
    by true is (inl one) = (one.request, one.asked, subst (λ (l : List ℕ). 0 < length l) (makes.turn.made.done one.request plain one.asked is) makes.some)
    by true is (inr (inl one)) = absurd (true≢false (sym is ∙ ap is_done one.answers))
    by true is (inr (inr (inl one))) = absurd (true≢false (sym is ∙ ap is_done one.answers))
    by true is (inr (inr (inr one))) = absurd (true≢false (sym is ∙ ap is_done one.answers))

pub no_event_of : (state : State) (body : List ℕ) → is_replacement body ≡ false → MakesNoEvent state body → MakesEvent server_machine state body → ⊥
no_event_of state body plain none makes =
    let one = event_of state body plain makes in
    omega (arith, one.2, ap (λ (l : List ℕ). length l) (none one.0 one.1))
