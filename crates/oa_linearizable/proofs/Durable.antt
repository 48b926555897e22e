-- One era after another.
use Rattle.std.proofs.Common.{◌≡◌, ◌⊎◌, inl, inr, ℕ, Bool, true, List, [], ◌∷◌, sym, refl, ap, ◌∙◌, subst, arith}
use Rattle.oa_disk.specs.declared.disk.Disk.{Ghosts}
use Rattle.oa_group_commit.specs.promise.Groups.{HoldsState}
use Rattle.oa_journal.specs.declared.shape.BankFormat.TheVariants.{Two}
use Rattle.oa_record.specs.promise.Replies.{ReplyValue}
use Rattle.oa_store.specs.promise.Stores.{IsStoreIn}
use Rattle.oa_table.specs.promise.Tables.{TableValue}
use Rattle.oa_turn.specs.promise.Beginnings.{CanBegin}
use Rattle.oa_turn.specs.promise.Turns.{Turn}
use Rattle.oa_server.specs.Laws.{FoundIsKept}
use Rattle.oa_server.specs.promise.ServerMachine as one_client
use Rattle.oa_server.specs.promise.SharedMachine.{opened_shared, shared_machine, ClientReply, Shared, SharedTurnOf}
use Rattle.oa_server.specs.promise.SharedMachine.{shared}
use Rattle.oa_mux.specs.promise.Readers.{Brought}
use Rattle.oa_decision.specs.promise.States.{State}
use Rattle.oa_history.proofs.ForMany.{turn_of}
use Rattle.oa_linearizable.specs.promise.Crashes.{AreHistoriesOf, IsDurable, RecoversState, ServersAreDurable}
use Rattle.oa_linearizable.specs.promise.Crashes.{failed_in}
use Rattle.oa_linearizable.specs.Crashes.{EachEraIsLinearizable, EraIsLinearizable}
use Rattle.oa_linearizable.specs.promise.Histories.{History, IsDurablyLinearizable, IsLegal, Operation}
use Rattle.oa_linearizable.specs.promise.Tables.{FailsFor, the_table}

-- an image holds a state without its locks
holds_opened : (state : Shared) (c : List ℕ) → HoldsState shared_machine state c → HoldsState shared_machine (opened_shared state) c
holds_opened state c holds =
    let same = shared_machine.reopens state in
    subst (λ (n : ℕ). IsStoreIn (Two n) c (shared_machine.text (opened_shared state)) (shared_machine.held (opened_shared state))) (sym same.2)
    (subst (λ (l : List ℕ). IsStoreIn (Two (shared_machine.bank state)) c l (shared_machine.held (opened_shared state))) (sym same.1)
    (subst (λ (h : TableValue). IsStoreIn (Two (shared_machine.bank state)) c (shared_machine.text state) h) (sym same.0) holds))

module _ (turn_begins : (old new : State) (body : List ℕ) (reply : ReplyValue) → CanBegin old → Turn old body reply new → CanBegin new) where
  -- a server can begin behind any legal history
  failed_begins : (client : ℕ) (brought : Brought) (told : ClientReply) (old new : Shared) → CanBegin old.state → FailsFor client brought told old new
      → CanBegin new.state
  failed_begins client brought told old new is (inl (same, inl kept)) = subst (λ (s : Shared). CanBegin s.state) (sym kept) is
  failed_begins client brought told old new is (inl (same, inr (other, turn))) = turn_of turn_begins client brought other old new is turn
  failed_begins client brought told old new is (inr (same, kept)) = subst (λ (s : Shared). CanBegin s.state) (sym kept) is

  legal_begins : (f : Bool) (old new : Shared) (order : List (Operation Brought ClientReply)) → CanBegin old.state → IsLegal (the_table f) old order new
      → CanBegin new.state
  legal_begins f old new [] is legal = subst (λ (s : Shared). CanBegin s.state) (sym legal) is
  legal_begins f old new (one ∷ order) is legal = legal_begins f legal.0 new order (by legal.1) legal.2
    where
      by : SharedTurnOf one.client one.input one.result old legal.0 ⊎ ((f ≡ true) × FailsFor one.client one.input one.result old legal.0)
          → CanBegin legal.0.state
      by (inl turn) = turn_of turn_begins one.client one.input one.result old legal.0 is turn
      by (inr fails) = failed_begins one.client one.input one.result old legal.0 is fails.1

  module _ (kept : FoundIsKept) (opens : (state : State) → CanBegin state → CanBegin (one_client.opened state)) where
    -- what a recovery finds is the state that is left, without locks
    found_state : (after next : Shared) (left : List ℕ) → CanBegin after.state → HoldsState shared_machine after left → RecoversState left next
        → next ≡ opened_shared after
    found_state after next left begins holds finds =
        finds.is ∙ ap (λ (s : State). shared s []) (sym (kept finds.bank finds.library after.state 0 [] left finds.table finds.checked begins.checked
        (record { done = []; later = []; groups_are = refl; enough = omega arith; state = after.state; run = refl; holds = holds }) finds.holds finds.unlocked))

    pub all_eras : {D : Type 0} {g : Ghosts D} → EachEraIsLinearizable g → ServersAreDurable g
    all_eras {D} {g} law before found [] begins holds runs = record {
      replies = [];
      frames_are = tt;
      after = before;
      linearizable = λ histories are. none histories are;
      holds = holds;
    }
      where
        none : (histories : List (History Brought ClientReply)) → AreHistoriesOf {D = D} [] [] histories
            → IsDurablyLinearizable the_table before [] histories before
        none [] are = refl
        none (history ∷ histories) are = absurd are
    all_eras {D} {g} law before found (era ∷ eras) begins holds runs =
        let one = law before era runs.1 in
        let after_begins = legal_begins era.has_failed before one.after one.order begins one.legal in
        let next : runs.2 ≡ opened_shared one.after = found_state one.after runs.2 era.left after_begins one.holds runs.3 in
        let rest = all_eras {g = g} law runs.2 era.left eras (subst (λ (s : Shared). CanBegin s.state) (sym next) (opens one.after.state after_begins))
        (subst (λ (s : Shared). HoldsState shared_machine s era.left) (sym next) (holds_opened one.after era.left one.holds)) runs.4 in
        record {
          replies = one.replies ∷ rest.replies;
          frames_are = (one.frames_are, rest.frames_are);
          after = rest.after;
          linearizable = λ histories are. more one rest next histories are;
          holds = rest.holds;
        }
      where
        more : (one : EraIsLinearizable before era) (rest : IsDurable runs.2 era.left eras) → runs.2 ≡ opened_shared one.after
            → (histories : List (History Brought ClientReply)) → AreHistoriesOf (era ∷ eras) (one.replies ∷ rest.replies) histories
            → IsDurablyLinearizable the_table before (failed_in (era ∷ eras)) histories rest.after
        more one rest next [] are = absurd are
        more one rest next (history ∷ histories) are = (
          one.after,
          record { order = one.order; linearized = one.linearized history are.0; legal = one.legal },
          subst (λ (s : Shared). IsDurablyLinearizable the_table s (failed_in eras) histories rest.after) next (rest.linearizable histories are.1),
        )
