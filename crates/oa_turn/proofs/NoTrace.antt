-- A reply other than S_OK leaves no trace.
use Rattle.std.proofs.Common.{◌≡◌, ℕ, ◌==◌, Bool, true, false, List, [], ◌∷◌, Option, Some, None, Result, Ok, Err, refl, sym, ap, ◌∙◌, subst, inl, inr}
use Rattle.std.proofs.Common.{true≢false}
use Rattle.std.specs.Prelude.{◌&&◌, not, if◌then◌else◌}
use Rattle.std.proofs.lemmas.Bool.Decides.{eqb_tells}
use Rattle.oa_model.specs.declared.hresult.HResult.{HResult}
use Rattle.oa_record.specs.declared.request.Request.{Request}
use Rattle.oa_record.specs.promise.Asks.{tag_at}
use Rattle.oa_record.specs.promise.Replies.{ReplyValue}
use Rattle.oa_table.specs.declared.fault.TableFault.{TableFault}
use Rattle.oa_table.specs.promise.Tables.{TableValue}
use Rattle.oa_decision.specs.declared.decision.Decision.{Decision}
use Rattle.oa_decision.specs.declared.decision.Decision.TheVariants.{Answer, Change, Relock}
use Rattle.oa_decision.specs.declared.refusal.Refusal.{Refusal}
use Rattle.oa_turn.specs.promise.Events.{is_done}
use Rattle.oa_turn.specs.Steps.{IsQuiet}
use Rattle.oa_turn.specs.promise.Steps.{Outcome, after_outcome, changed, outcome_of, relocked, relocking, outcome}
use Rattle.oa_turn.specs.promise.Steps.{reply_to}
use Rattle.oa_decision.specs.promise.Limits.{allowed}
use Rattle.oa_decision.specs.promise.States.{State}
use Rattle.oa_decision.specs.promise.Decided.{decided}
use Rattle.oa_compat.specs.promise.Keeps.{first_lost}
use Rattle.oa_compat.specs.declared.lost.Incompatibility.{Incompatibility}
use Rattle.oa_turn.specs.promise.Replacing.{Replacement, after_replacement, replacement_reply}
use Rattle.oa_turn.specs.promise.Turns.{Ordinary, Turn, Run}
use Rattle.oa_turn.specs.Traces.{done_bodies, done_replies, kept_bodies, kept_replies}

-- a reply that is not told as done
pub not_done : (reply : ReplyValue) → is_done reply ≡ false → reply.code.0 ≡ 0 → ⊥
not_done reply is e = true≢false (ap (λ (n : ℕ). n == 0) (sym e) ∙ is)

quiet_outcome : (state : State) (due : Result Decision Refusal) → ((outcome_of state due).code.0 ≡ 0 → ⊥) → IsQuiet (outcome_of state due)
quiet_outcome state (Err r) n = (refl, refl)
quiet_outcome state (Ok (Answer code fields)) n = (refl, refl)
quiet_outcome state (Ok (Change event fields)) n = by (allowed state.bank event state.table) n
  where
    by : (due : Result TableValue HResult) → ((changed event fields due).code.0 ≡ 0 → ⊥) → IsQuiet (changed event fields due)
    by (Ok table) m = absurd (m refl)
    by (Err code) m = (refl, refl)
quiet_outcome state (Ok (Relock change fields)) n = by (relocked change state.table) n
  where
    by : (due : Result TableValue TableFault) → ((relocking change fields due).code.0 ≡ 0 → ⊥) → IsQuiet (relocking change fields due)
    by (Ok table) m = absurd (m refl)
    by (Err fault) m = (refl, refl)

-- an outcome without a change leaves the state
quiet_leaves : (state : State) (o : Outcome) → IsQuiet o → after_outcome state o ≡ state
quiet_leaves state o h = rw (h.0, h.1) refl

-- its outcome changes nothing
pub quiet_step : (state : State) (tag : ℕ) (request : Request) → ((reply_to state tag request).code.0 ≡ 0 → ⊥)
    → IsQuiet (outcome state request)
quiet_step state tag request n = quiet_outcome state (decided state request) n

quiet_ordinary : (old new : State) (body : List ℕ) (reply : ReplyValue) → Ordinary old body reply new → (reply.code.0 ≡ 0 → ⊥) → new ≡ old
quiet_ordinary old new body reply (inl s) n =
    let quiet = quiet_step old (tag_at body) s.request (λ e. n (ap (λ (r : ReplyValue). r.code.0) s.answers ∙ e)) in
    s.leaves ∙ quiet_leaves old (outcome old s.request) quiet
quiet_ordinary old new body reply (inr (inl s)) n = s.leaves
quiet_ordinary old new body reply (inr (inr (inl s))) n = s.leaves
quiet_ordinary old new body reply (inr (inr (inr s))) n = s.leaves

-- a library that would lose something replaces none
quiet_replacement : (old new : State) (body : List ℕ) (reply : ReplyValue) → Replacement old body reply new → (reply.code.0 ≡ 0 → ⊥) → new ≡ old
quiet_replacement old new body reply (inl s) n = by (first_lost s.library old.library) s.answers s.leaves
  where
    by : (lost : Option Incompatibility) → reply ≡ replacement_reply (tag_at body) lost → new ≡ after_replacement old s.library lost → new ≡ old
    by None told leaves = absurd (n (ap (λ (r : ReplyValue). r.code.0) told))
    by (Some lost) told leaves = leaves
quiet_replacement old new body reply (inr (inl s)) n = s.leaves
quiet_replacement old new body reply (inr (inr s)) n = s.leaves

pub quiet_turn : (old new : State) (body : List ℕ) (reply : ReplyValue) → Turn old body reply new → (reply.code.0 ≡ 0 → ⊥) → new ≡ old
quiet_turn old new body reply (inl s) n = quiet_ordinary old new body reply s.turn n
quiet_turn old new body reply (inr s) n = quiet_replacement old new body reply s.turn n

pub quiet_run : (old new : State) (bodies : List (List ℕ)) (replies : List ReplyValue) → Run old bodies replies new
    → Run old (done_bodies bodies replies) (done_replies replies) new
quiet_run old new [] [] r = r
quiet_run old new [] (y ∷ ys) r = absurd r
quiet_run old new (x ∷ xs) [] r = absurd r
quiet_run old new (x ∷ xs) (y ∷ ys) r =
    let rest = quiet_run r.0 new xs ys r.2 in
    elim (eqb_tells y.code.0 0) as (λ _. Run old (done_bodies (x ∷ xs) (y ∷ ys)) (done_replies (y ∷ ys)) new) [
      | inl is ↦ rw is.0 (r.0, r.1, rest)
      | inr is ↦ rw is.0 (subst (λ from. Run from (done_bodies xs ys) (done_replies ys) new) (quiet_turn old r.0 x y r.1 is.1) rest)
    ]

-- any of these turns may be left out
pub quiet_choice : (old new : State) (choices : List Bool) (bodies : List (List ℕ)) (replies : List ReplyValue)
    → Run old bodies replies new → Run old (kept_bodies choices bodies replies) (kept_replies choices replies) new
quiet_choice old new [] bodies replies r = r
quiet_choice old new (chosen ∷ choices) [] [] r = r
quiet_choice old new (chosen ∷ choices) [] (y ∷ ys) r = absurd r
quiet_choice old new (chosen ∷ choices) (x ∷ xs) [] r = absurd r
quiet_choice old new (chosen ∷ choices) (x ∷ xs) (y ∷ ys) r = by chosen (y.code.0 == 0) refl (quiet_choice r.0 new choices xs ys r.2)
  where
    by : (chosen success : Bool) → (y.code.0 == 0) ≡ success → Run r.0 (kept_bodies choices xs ys) (kept_replies choices ys) new
        → Run old (if chosen && not success then kept_bodies choices xs ys else x ∷ kept_bodies choices xs ys)
        (if chosen && not success then kept_replies choices ys else y ∷ kept_replies choices ys) new
    by true true is rest = (r.0, r.1, rest)
    by false success is rest = (r.0, r.1, rest)
    by true false is rest =
        let refused : y.code.0 ≡ 0 → ⊥ = λ e. true≢false (ap (λ n. n == 0) (sym e) ∙ is) in
        subst (λ from. Run from (kept_bodies choices xs ys) (kept_replies choices ys) new) (quiet_turn old r.0 x y r.1 refused) rest
