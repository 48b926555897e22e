-- What was served can be served again.
use Rattle.std.proofs.Common.{◌≡◌, ◌≤◌, ℕ, List, Option, Some, None, Result, Ok, Err, IfOk, IsOk, inl, inr, refl, sym, ap, subst, ◌∙◌}
use Rattle.oa_idl.specs.promise.Trees.{TreeValue}
use Rattle.oa_model.specs.declared.hresult.HResult.{HResult}
use Rattle.oa_record.specs.promise.Replies.{ReplyValue}
use Rattle.oa_table.specs.declared.event.Event.{Event}
use Rattle.oa_table.specs.declared.fault.TableFault.{TableFault}
use Rattle.oa_table.specs.promise.Events.{applied}
use Rattle.oa_table.specs.promise.Tables.{TableValue}
use Rattle.oa_table.specs.Tables.{first_table}
use Rattle.oa_typelib.specs.promise.Checked.{IsChecked}
use Rattle.oa_decision.specs.declared.decision.Decision.{Decision}
use Rattle.oa_decision.specs.declared.decision.Decision.TheVariants.{Answer, Change, Relock}
use Rattle.oa_decision.specs.declared.decision.LockChange.{LockChange}
use Rattle.oa_decision.specs.declared.refusal.Refusal.{Refusal}
use Rattle.oa_turn.specs.promise.Steps.{after_outcome, changed, outcome_of, relocked, relocking, with_table}
use Rattle.oa_turn.specs.Limits.{IsSoundTable, least_bank}
use Rattle.oa_decision.specs.promise.Limits.{allowed}
use Rattle.oa_turn.specs.promise.Beginnings.{CanBegin}
use Rattle.oa_turn.proofs.SameLibrary.{turn_bank}
use Rattle.oa_decision.specs.promise.States.{State}
use Rattle.oa_decision.specs.promise.Decided.{decided}
use Rattle.oa_compat.specs.promise.Keeps.{first_lost}
use Rattle.oa_compat.specs.declared.lost.Incompatibility.{Incompatibility}
use Rattle.oa_turn.specs.promise.Replacing.{Replacement, after_replacement}
use Rattle.oa_turn.specs.promise.Turns.{Ordinary, Turn}
use Rattle.oa_turn.proofs.Allowed.{first_sound, relock_sound, stays_sound}
use Rattle.oa_turn.proofs.Fitting.{EventKept, turn_fit}

-- ---- the table stays sound
with_sound : (bank : ℕ) (state : State) (r : Result TableValue TableFault) → IsSoundTable bank state.table → IfOk r (IsSoundTable bank)
    → IsSoundTable bank (with_table state r).table
with_sound bank state (Ok table) was is = is
with_sound bank state (Err fault) was is = was

event_sound : (state : State) (event : Event) → IsOk (allowed state.bank event state.table) → IsSoundTable state.bank state.table
    → IfOk (applied event state.table) (IsSoundTable state.bank)
event_sound state event ok was = by (applied event state.table) refl
  where
    by : (r : Result TableValue TableFault) → applied event state.table ≡ r → IfOk r (IsSoundTable state.bank)
    by (Ok new) at = stays_sound state.bank event state.table new was ok at
    by (Err fault) at = tt

locks_sound : (state : State) (change : LockChange) → IsSoundTable state.bank state.table → IfOk (relocked change state.table) (IsSoundTable state.bank)
locks_sound state change was = by (relocked change state.table) refl
  where
    by : (r : Result TableValue TableFault) → relocked change state.table ≡ r → IfOk r (IsSoundTable state.bank)
    by (Ok new) at = relock_sound state.bank change state.table new at was
    by (Err fault) at = tt

outcome_sound : (state : State) (due : Result Decision Refusal) → IsSoundTable state.bank state.table
    → IsSoundTable state.bank (after_outcome state (outcome_of state due)).table
outcome_sound state (Err r) was = was
outcome_sound state (Ok (Answer code fields)) was = was
outcome_sound state (Ok (Change event fields)) was = by (allowed state.bank event state.table) refl
  where
    by : (r : Result TableValue HResult) → allowed state.bank event state.table ≡ r
        → IsSoundTable state.bank (after_outcome state (changed event fields r)).table
    by (Ok table) at = with_sound state.bank state (applied event state.table) was (event_sound state event (subst IsOk (sym at) refl) was)
    by (Err code) at = was
outcome_sound state (Ok (Relock change fields)) was = by (relocked change state.table)
  where
    by : (r : Result TableValue TableFault) → IsSoundTable state.bank (after_outcome state (relocking change fields r)).table
    by (Ok table) = with_sound state.bank state (relocked change state.table) was (locks_sound state change was)
    by (Err fault) = was

ordinary_sound : (old new : State) (body : List ℕ) (reply : ReplyValue) → Ordinary old body reply new → IsSoundTable old.bank old.table
    → IsSoundTable old.bank new.table
ordinary_sound old new body reply (inl s) was = subst (λ (x : State). IsSoundTable old.bank x.table) (sym s.leaves)
    (outcome_sound old (decided old s.request) was)
ordinary_sound old new body reply (inr (inl s)) was = subst (λ (x : State). IsSoundTable old.bank x.table) (sym s.leaves) was
ordinary_sound old new body reply (inr (inr (inl s))) was = subst (λ (x : State). IsSoundTable old.bank x.table) (sym s.leaves) was
ordinary_sound old new body reply (inr (inr (inr s))) was = subst (λ (x : State). IsSoundTable old.bank x.table) (sym s.leaves) was

-- a replacement carries the table
same_table_after : (old : State) (library : TreeValue) (lost : Option Incompatibility) → (after_replacement old library lost).table ≡ old.table
same_table_after old library None = refl
same_table_after old library (Some lost) = refl

replacement_table : (old new : State) (body : List ℕ) (reply : ReplyValue) → Replacement old body reply new → new.table ≡ old.table
replacement_table old new body reply (inl s) = ap (λ (x : State). x.table) s.leaves ∙ same_table_after old s.library (first_lost s.library old.library)
replacement_table old new body reply (inr (inl s)) = ap (λ (x : State). x.table) s.leaves
replacement_table old new body reply (inr (inr s)) = ap (λ (x : State). x.table) s.leaves

turn_sound : (old new : State) (body : List ℕ) (reply : ReplyValue) → Turn old body reply new → IsSoundTable old.bank old.table
    → IsSoundTable old.bank new.table
turn_sound old new body reply (inl s) was = ordinary_sound old new body reply s.turn was
turn_sound old new body reply (inr s) was = subst (IsSoundTable old.bank) (sym (replacement_table old new body reply s.turn)) was

-- ---- and the next server can begin with it
sound_of : (state : State) → CanBegin state → IsSoundTable state.bank state.table
sound_of state is = record { numbered = is.numbered; small = is.serves.small }

module _ (event_kept : EventKept) where
  pub turn_begins : (old new : State) (body : List ℕ) (reply : ReplyValue) → CanBegin old → Turn old body reply new → CanBegin new
  turn_begins old new body reply is turn =
      let fit = turn_fit event_kept old new body reply is.checked is.serves.fit turn in
      let sound = subst (λ (n : ℕ). IsSoundTable n new.table) (sym (turn_bank old new body reply turn))
      (turn_sound old new body reply turn (sound_of old is)) in
      record { checked = fit.0; serves = record { fit = fit.1; small = sound.small }; numbered = sound.numbered }

pub first_begins : (bank : ℕ) (library : TreeValue) → IsChecked library → least_bank ≤ bank
    → CanBegin (record { bank = bank; library = library; table = first_table })
first_begins bank library is large = let sound = first_sound bank large in
    record { checked = is; serves = record { fit = refl; small = sound.small }; numbered = sound.numbered }
