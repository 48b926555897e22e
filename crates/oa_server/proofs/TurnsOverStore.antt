-- A turn over a store.
use Rattle.std.proofs.Common.{rules, ◌≡◌, ◌⊎◌, inl, inr, Bool, true, false, true≢false, ℕ, ◌-◌, ◌<◌, ◌≤◌, ◌++◌, List, [], length, None, Result, Ok, Err, IsOk}
use Rattle.std.proofs.Common.{refl}
use Rattle.std.proofs.Common.{sym, ap, ◌∙◌, subst, arith}
use Rattle.std.specs.Prelude.{nat_lt}
use Rattle.std.proofs.lemmas.Bool.{ltb-false}
use Rattle.oa_disk.specs.declared.disk.Disk.{Ghosts}
use Rattle.oa_group_commit.specs.promise.Groups.{MakesEvent}
use Rattle.oa_group_commit.proofs.Called.{none_or_some}
use Rattle.oa_image.proofs.Lengths.{event_bytes}
use Rattle.oa_journal.specs.promise.Bank.{ample_bytes, body_bytes, Replays}
use Rattle.oa_store.proofs.Committed.{one_event}
use Rattle.oa_store.specs.promise.Holding.{PreservesCommitted}
use Rattle.oa_store.specs.declared.store.Store.{Store}
use Rattle.oa_table.specs.declared.fault.TableFault.{TableFault}
use Rattle.oa_server.specs.OpenGroups.{CallsWhereDue}
use Rattle.oa_decision.specs.promise.Limits.{limited}
use Rattle.std.proofs.lemmas.List.{append-nil}
use Rattle.oa_model.specs.promise.Limits.{max_event_bytes}
use Rattle.oa_image.specs.promise.Events.{event as an_event, event_image}
use Rattle.oa_model.specs.promise.Codes.{e_outofmemory, s_ok}
use Rattle.oa_record.specs.promise.Asks.{Asks}
use Rattle.oa_record.specs.promise.Replies.{ReplyValue}
use Rattle.oa_record.specs.declared.request.Request.{Request}
use Rattle.oa_table.specs.promise.Events.{applied}
use Rattle.oa_table.specs.promise.Tables.{TableValue}
use Rattle.oa_decision.specs.declared.plan.Planned.{Planned}
use Rattle.oa_turn.specs.promise.Plans.{HoldsSame}
use Rattle.oa_turn.specs.Plans.{IsPlanned}
use Rattle.oa_turn.specs.promise.Events.{HasEvent, held_of}
use Rattle.oa_server.specs.ServerMachine.{HasTurn, IsHeldBack}
use Rattle.oa_server.specs.promise.ServerMachine.{server_machine}
use Rattle.oa_decision.specs.promise.States.{State}
use Rattle.oa_decision.specs.promise.Decided.{refusal}
use Rattle.oa_record.specs.promise.Replacement.{is_replacement}
use Rattle.oa_turn.specs.promise.Turns.{Ordinary}
use Rattle.oa_turn.proofs.Allowed.{is_allowed}
use Rattle.oa_turn.proofs.Eventless.{has_event, undone}
use Rattle.oa_turn.proofs.Changing.{done, refused}

-- what was committed stands, however what is held is named
pub carried : {D : Type 0} {g : Ghosts D} {held also : TableValue} (batch : List ℕ) (old new : Store D g) → held ≡ also
    → PreservesCommitted batch held old new → PreservesCommitted batch also old new
carried batch old new same is = record {
  any_moment = λ committed first all. is.any_moment committed (λ none. same ∙ first none) all;
  each = λ going committed first all. is.each going committed (λ none. same ∙ first none) all;
  library = is.library;
  once = is.once;
}

-- no events
no_events : (before after : TableValue) → after ≡ before → Replays [] before after
no_events before after same = subst (λ (t : TableValue). Replays [] before t) (sym same)
    (record { events = []; are = record { are = tt; whole = refl }; makes = refl })

-- a turn that changes nothing that images hold
pub answered : (body : List ℕ) (reply : ReplyValue) (events : List ℕ) (old new : State) → is_replacement body ≡ false → Ordinary old body reply new
    → HoldsSame old new → HasEvent old body reply [] → IsHeldBack body reply events events old new
answered body reply events old new plain turn same none = record {
  event = [];
  asked = record { turn = inl (record { kind = plain; turn = turn }); made = none; replays = no_events (held_of old) (held_of new) same.table };
  added = sym (append-nil events);
  small = omega arith;
}

module _ (one_request : (body : List ℕ) (p q : Request) → Asks body p → Asks body q → p ≡ q) (old : State) (body : List ℕ) (planned : Planned)
    (plain : is_replacement body ≡ false) (is : IsPlanned old body planned) where
  -- a change that is made
  pub held : (new : State) (reply : ReplyValue) (events events' : List ℕ) → applied planned.event old.table ≡ Ok new.table
      → new ≡ record old { table = new.table }
      → reply ≡ record { tag = planned.tag; code = s_ok; index = None; body = planned.fields }
      → Replays (event_image planned.event) (held_of old) (held_of new) → length (event_image planned.event) ≤ max_event_bytes
      → events' ≡ events ++ event_image planned.event → IsHeldBack body reply events events' old new
  held new reply events events' at leaves told replays small added =
      record {
        event = event_image planned.event;
        asked = record {
          turn =
              inl (record {
                kind = plain;
                turn = done old body planned is.drafted new reply
                    (is_allowed old.bank planned.event old.table new.table is.allows at).is leaves told;
              });
          made = has_event old body one_request is.drafted.request is.drafted.asked planned new.table reply is.drafted.decided_is
              (is_allowed old.bank planned.event old.table new.table is.allows at).is (rw told refl);
          replays = replays;
        };
        added = added;
        small = small;
      }

  -- memory was refused
  pub starved : (new : State) (reply : ReplyValue) (events events' : List ℕ) → new ≡ old → events' ≡ events → reply ≡ refusal planned.tag e_outofmemory None
      → IsHeldBack body reply events events' old new
  starved new reply events events' same none told = record {
    event = [];
    asked = record {
      turn = inl (record { kind = plain; turn = refused old body planned is.drafted new reply e_outofmemory (inr (refl, is.allows)) told same });
      made = undone old body reply (rw told refl);
      replays = no_events (held_of old) (held_of new) (ap held_of same);
    };
    added = none ∙ sym (append-nil events);
    small = omega arith;
  }

  -- some turn
  pub has_turn : (new : State) → new ≡ old → HasTurn body old new
  has_turn new same = record {
    reply = refusal planned.tag e_outofmemory None;
    asked = record {
      turn = inl (record {
        kind = plain;
        turn = refused old body planned is.drafted new (refusal planned.tag e_outofmemory None) e_outofmemory
            (inr (refl, is.allows)) refl same;
      });
      made = undone old body (refusal planned.tag e_outofmemory None) refl;
      replays = no_events (held_of old) (held_of new) (ap held_of same);
    };
    same = ap held_of same;
  }

  -- where the change is made, it makes an event
  pub makes_event : an_event.Is planned.event → MakesEvent server_machine old body
  makes_event is_event = by (applied planned.event old.table) refl
    where
      by : (due : Result TableValue TableFault) → applied planned.event old.table ≡ due → MakesEvent server_machine old body
      by (Ok table) at =
          let new : State = record old { table = table } in
          let reply : ReplyValue = record { tag = planned.tag; code = s_ok; index = None; body = planned.fields } in
          let made = (is_allowed old.bank planned.event old.table table is.allows at).is in
          record {
            reply = reply;
            event = event_image planned.event;
            after = new;
            turn = record {
              turn = inl (record { kind = plain; turn = done old body planned is.drafted new reply made refl refl });
              made = has_event old body one_request is.drafted.request is.drafted.asked planned table reply is.drafted.decided_is made refl;
              replays = one_event planned.event old.table table is_event at;
            };
            some = event_bytes planned.event is_event;
          }
      by (Err fault) at = absurd (true≢false (sym (subst (λ (r : Result TableValue TableFault). IsOk (limited old.bank planned.event r)) at is.allows)))

  -- and the device is called where that is due
  pub called_where_due : {D : Type 0} {g : Ghosts D} (store new : Store D g) (events : List ℕ) → an_event.Is planned.event
      → (0 < length events → new.disk ≡ store.disk)
      → (ample_bytes ≤ (body_bytes store.bank.shape - store.bank.gate) → new.disk ≡ store.disk) → CallsWhereDue store new old events body
  called_where_due store new events is_event quiet undue = by (none_or_some events) (nat_lt (body_bytes store.bank.shape - store.bank.gate) ample_bytes) refl
    where
      by : (length events ≡ 0) ⊎ (0 < length events) → (b : Bool) → nat_lt (body_bytes store.bank.shape - store.bank.gate) ample_bytes ≡ b
          → CallsWhereDue store new old events body
      by (inr some) b is_b = inl (quiet some)
      by (inl none) false is_b = inl (undue (ltb-false (body_bytes store.bank.shape - store.bank.gate) ample_bytes is_b))
      by (inl none) true is_b = inr (record { first = none; short = search (is_b, rules); makes = makes_event is_event })
