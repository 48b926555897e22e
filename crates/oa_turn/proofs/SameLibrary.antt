-- No body but one of opcode 12 changes the library, and none changes the size of a bank.
use Rattle.std.proofs.Common.{◌≡◌, ℕ, List, Option, Some, None, Result, Ok, Err, false, true≢false, inl, inr, refl, sym, ap, ◌∙◌}
use Rattle.oa_idl.specs.promise.Trees.{TreeValue}
use Rattle.oa_record.specs.promise.Replacement.{is_replacement}
use Rattle.oa_record.specs.promise.Replies.{ReplyValue}
use Rattle.oa_table.specs.declared.event.Event.{Event}
use Rattle.oa_table.specs.declared.fault.TableFault.{TableFault}
use Rattle.oa_table.specs.promise.Tables.{TableValue}
use Rattle.oa_decision.specs.declared.decision.LockChange.{LockChange}
use Rattle.oa_compat.specs.promise.Keeps.{first_lost}
use Rattle.oa_compat.specs.declared.lost.Incompatibility.{Incompatibility}
use Rattle.oa_turn.specs.promise.Steps.{Outcome, after_event, after_locks, after_outcome, with_table, outcome}
use Rattle.oa_turn.specs.promise.Replacing.{Replacement, after_replacement}
use Rattle.oa_decision.specs.promise.States.{State}
use Rattle.oa_turn.specs.promise.Turns.{Ordinary, Turn}

-- all but the table
pub record Rest : Type 0 where
  pub bank : ℕ
  pub library : TreeValue

abbrev rest_of : State → Rest
rest_of state = record { bank = state.bank; library = state.library }

table_alone : (state : State) (r : Result TableValue TableFault) → rest_of (with_table state r) ≡ rest_of state
table_alone state (Ok table) = refl
table_alone state (Err fault) = refl

event_alone : (state : State) (event : Option Event) → rest_of (after_event state event) ≡ rest_of state
event_alone state None = refl
event_alone state (Some event) = table_alone state _

locks_alone : (state : State) (change : Option LockChange) → rest_of (after_locks state change) ≡ rest_of state
locks_alone state None = refl
locks_alone state (Some change) = table_alone state _

outcome_alone : (state : State) (o : Outcome) → rest_of (after_outcome state o) ≡ rest_of state
outcome_alone state o = locks_alone (after_event state o.event) o.locks ∙ event_alone state o.event

ordinary_rest : (old new : State) (body : List ℕ) (reply : ReplyValue) → Ordinary old body reply new → rest_of new ≡ rest_of old
ordinary_rest old new body reply (inl s) = ap (λ (x : State). rest_of x) s.leaves ∙ outcome_alone old (outcome old s.request)
ordinary_rest old new body reply (inr (inl s)) = ap (λ (x : State). rest_of x) s.leaves
ordinary_rest old new body reply (inr (inr (inl s))) = ap (λ (x : State). rest_of x) s.leaves
ordinary_rest old new body reply (inr (inr (inr s))) = ap (λ (x : State). rest_of x) s.leaves

pub ordinary_library : (old new : State) (body : List ℕ) (reply : ReplyValue) → Ordinary old body reply new → new.library ≡ old.library
ordinary_library old new body reply s = ap (λ (r : Rest). r.library) (ordinary_rest old new body reply s)

pub ordinary_bank : (old new : State) (body : List ℕ) (reply : ReplyValue) → Ordinary old body reply new → new.bank ≡ old.bank
ordinary_bank old new body reply s = ap (λ (r : Rest). r.bank) (ordinary_rest old new body reply s)

replaced_bank : (old : State) (library : TreeValue) (lost : Option Incompatibility) → (after_replacement old library lost).bank ≡ old.bank
replaced_bank old library None = refl
replaced_bank old library (Some lost) = refl

pub replacement_bank : (old new : State) (body : List ℕ) (reply : ReplyValue) → Replacement old body reply new → new.bank ≡ old.bank
replacement_bank old new body reply (inl s) = ap (λ (x : State). x.bank) s.leaves ∙ replaced_bank old s.library (first_lost s.library old.library)
replacement_bank old new body reply (inr (inl s)) = ap (λ (x : State). x.bank) s.leaves
replacement_bank old new body reply (inr (inr s)) = ap (λ (x : State). x.bank) s.leaves

pub turn_bank : (old new : State) (body : List ℕ) (reply : ReplyValue) → Turn old body reply new → new.bank ≡ old.bank
turn_bank old new body reply (inl s) = ordinary_bank old new body reply s.turn
turn_bank old new body reply (inr s) = replacement_bank old new body reply s.turn

pub plain_library : (old new : State) (body : List ℕ) (reply : ReplyValue) → Turn old body reply new → is_replacement body ≡ false → new.library ≡ old.library
plain_library old new body reply (inl s) plain = ordinary_library old new body reply s.turn
plain_library old new body reply (inr s) plain = absurd (true≢false (sym s.kind ∙ plain))
