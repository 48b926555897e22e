-- A change that was decided, and is made, refused or lacks memory, is a turn.
use Rattle.std.proofs.Common.{◌≡◌, inl, inr, ◌⊎◌, ℕ, List, None, Result, Ok, Err, IsOk, ap, refl, ◌∙◌}
use Rattle.oa_table.specs.declared.event.Event.{Event}
use Rattle.oa_table.specs.promise.Tables.{TableValue}
use Rattle.oa_turn.specs.Changes.{MakesChange, MakesTable}
use Rattle.oa_model.specs.declared.hresult.HResult.{HResult}
use Rattle.oa_model.specs.promise.Codes.{e_outofmemory, s_ok}
use Rattle.oa_record.specs.promise.Replies.{ReplyValue}
use Rattle.oa_decision.specs.declared.plan.Planned.{Planned}
use Rattle.oa_decision.specs.promise.Limits.{allowed}
use Rattle.oa_turn.specs.Plans.{IsDrafted}
use Rattle.oa_decision.specs.promise.States.{State, state_of}
use Rattle.oa_decision.specs.promise.Decided.{refusal}
use Rattle.oa_turn.specs.promise.Turns.{Ordinary}
use Rattle.oa_turn.proofs.Allowed.{is_made}
use Rattle.oa_turn.proofs.Wants.{wants}

module _ (old : State) (body : List ℕ) (planned : Planned) (is : IsDrafted old body planned) where
  pub done : (new : State) (reply : ReplyValue) → allowed old.bank planned.event old.table ≡ Ok new.table → new ≡ record old { table = new.table }
      → reply ≡ record { tag = planned.tag; code = s_ok; index = None; body = planned.fields } → Ordinary old body reply new
  done new reply made leaves told =
      let at = (is_made old.bank planned.event old.table new.table made).applies in
      inl (record {
        request = is.request;
        asked = is.asked;
        answers = told ∙ rw (is.decided_is, is.tag, made) refl;
        leaves = leaves
            ∙ rw (is.decided_is, made, at) refl;
      })

  pub refused : (new : State) (reply : ReplyValue) (code : HResult)
      → (allowed old.bank planned.event old.table ≡ Err code) ⊎ ((code ≡ e_outofmemory) × IsOk (allowed old.bank planned.event old.table))
      → reply ≡ refusal planned.tag code None → new ≡ old → Ordinary old body reply new
  refused new reply code (inl why) told same =
      inl (record {
        request = is.request;
        asked = is.asked;
        answers = told ∙ rw (is.decided_is, is.tag, why) refl;
        leaves = same
            ∙ rw (is.decided_is, why) refl;
      })
  refused new reply code (inr lacks) told same = inr (inr (inr (record {
    may = inr (record { request = is.request; asked = is.asked; takes = wants old is.request planned.event planned.fields is.decided_is lacks.1 });
    answers = told ∙ rw (is.tag, lacks.0) refl;
    leaves = same;
  })))

-- what is made of the table is made of the state
pub made : {E : Type 0} (event : Event) (old new : State) (result : Result (Unit {0}) E) → MakesTable event old.table new.table result
    → new ≡ record old { table = new.table } → MakesChange event old new result
made event old new (Ok u) at leaves = (at, leaves)
made event old new (Err e) same leaves = leaves ∙ ap (λ (t : TableValue). state_of old.bank old.library t) same
