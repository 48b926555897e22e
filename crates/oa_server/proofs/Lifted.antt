-- What is taken for one client is taken for one of many.
use Rattle.std.proofs.Common.{◌≡◌, ◌⊎◌, inl, inr, ℕ, suc, ◌+◌, Bool, true, false, List, [], ◌∷◌, ◌++◌, length, map, Option, Some, None, refl, sym, ap, ◌∙◌}
use Rattle.std.proofs.Common.{arith}
use Rattle.std.proofs.lemmas.List.{length-map, length-append}
use Rattle.oa_disk.specs.declared.disk.Disk.{Ghosts}
use Rattle.oa_frame.specs.declared.ends.End.{End}
use Rattle.oa_group_commit.specs.promise.Groups.{fills, GroupState, IsAdmitted, IsAfterFault, IsApart}
use Rattle.oa_group_commit.specs.promise.Groups.{IsBarrierAnswered, IsBuffered, IsDue, IsEnded, IsFlushed}
use Rattle.oa_group_commit.specs.promise.Groups.{IsGroupCommitted, IsIdle, IsLast, exchange}
use Rattle.oa_group_commit.proofs.Entries.{either}
use Rattle.oa_turn.specs.promise.ClientLocks.{ClientLock}
use Rattle.oa_record.specs.promise.Replacement.{is_replacement}
use Rattle.oa_record.specs.promise.Replies.{ReplyValue}
use Rattle.oa_store.specs.declared.store.Store.{Store}
use Rattle.oa_server.specs.promise.SharedSessions.{shared_group_state, told_to, told_with}
use Rattle.oa_server.specs.OpenGroups.{grouping}
use Rattle.oa_server.specs.promise.ServerMachine.{IsAsked, server_machine}
use Rattle.oa_server.specs.promise.ServerMachine as one_client
use Rattle.oa_server.specs.promise.SharedMachine.{shared_machine, ClientReply, HasOwners, IsSharedTurn, Replies, Shared}
use Rattle.oa_server.specs.promise.SharedMachine.{aborted_client_reply, fault_client_reply, shared, tagged_body}
use Rattle.oa_server.specs.declared.desk.ReplyTo.{ReplyTo}
use Rattle.oa_mux.specs.promise.Readers.{Body}
use Rattle.oa_decision.specs.promise.States.{State}
use Rattle.oa_decision.specs.declared.decision.LockChange.{LockChange}
use Rattle.oa_turn.specs.promise.Locking.{AsksLock}

-- ---- whose reply is whose
pub told_none : (askers : List ReplyTo) → told_to askers [] ≡ []
told_none [] = refl
told_none (asker ∷ askers) = refl

pub told_both : (askers others : List ReplyTo) (replies more : List ReplyValue) → length askers ≡ length replies
    → told_to (askers ++ others) (replies ++ more) ≡ told_to askers replies ++ told_to others more
told_both [] others [] more e = refl
told_both [] others (reply ∷ replies) more e = absurd (omega (arith, e))
told_both (asker ∷ askers) others [] more e = absurd (omega (arith, e))
told_both (asker ∷ askers) others (reply ∷ replies) more e =
    let rest : length askers ≡ length replies = omega (arith, e) in
    ap (λ (l : List ClientReply). told_with asker.client asker.why reply ∷ l) (told_both askers others replies more rest)

pub told_length : (askers : List ReplyTo) (replies : List ReplyValue) → length askers ≡ length replies → length (told_to askers replies) ≡ length replies
told_length [] [] e = refl
told_length [] (reply ∷ replies) e = absurd (omega (arith, e))
told_length (asker ∷ askers) [] e = refl
told_length (asker ∷ askers) (reply ∷ replies) e =
    let rest : length askers ≡ length replies = omega (arith, e) in
    ap suc (told_length askers replies rest)

told_back : (client : ℕ) (why : Option End) (reply : ReplyValue) → told_with client why (one_client.aborted_reply reply) ≡ aborted_client_reply
    (told_with client why reply)
told_back client None reply = refl
told_back client (Some why) reply = refl

pub all_told_back : (askers : List ReplyTo) (replies : List ReplyValue) → told_to askers (map one_client.aborted_reply replies) ≡ map aborted_client_reply
    (told_to askers replies)
all_told_back [] replies = refl
all_told_back (asker ∷ askers) [] = refl
all_told_back (asker ∷ askers) (reply ∷ replies) =
    ap (λ (r : ClientReply). r ∷ told_to askers (map one_client.aborted_reply replies)) (told_back asker.client asker.why reply)
    ∙ ap (λ (l : List ClientReply). aborted_client_reply (told_with asker.client asker.why reply) ∷ l) (all_told_back askers replies)

no_askers : (askers : List ReplyTo) → length askers ≡ 0 → askers ≡ []
no_askers [] e = refl
no_askers (asker ∷ askers) e = absurd (omega (arith, e))

-- ---- a turn
pub lifted_turn : (client : ℕ) (body : List ℕ) (reply : ReplyValue) (event : List ℕ) (before after : State) (locks locks' : List ClientLock)
    → IsAsked (exchange body reply event) before after → HasOwners client (shared before locks) body reply locks'
    → IsSharedTurn (exchange (tagged_body client (Body body)) (Replies client reply) event) (shared before locks) (shared after locks')
lifted_turn client body reply event before after locks locks' asked owners = record {
  client = client;
  brought = Body body;
  body_is = refl;
  turn = record { reply = reply; told_is = refl; turn = inl (record { turn = asked.turn; owners = owners }) };
  made = asked.made;
  replays = asked.replays;
}

pub same_owners : (client : ℕ) (body : List ℕ) (reply : ReplyValue) (before : State) (locks : List ClientLock)
    → ((change : LockChange) → AsksLock before body change → ⊥)
    → HasOwners client (shared before locks) body reply locks
same_owners client body reply before locks none = record { done = λ change asks done. absurd (none change asks); others = λ _. refl; undone = λ _. refl }

module _ {D : Type 0} {g : Ghosts D} where
  lifted_due : (client : ℕ) (body : List ℕ) (locks : List ClientLock) (store : Store D g) (before : State) (events : List ℕ)
      → ((change : LockChange) → AsksLock before body change → ⊥)
      → IsDue server_machine store before events body → IsDue shared_machine store (shared before locks) events (tagged_body client (Body body))
  lifted_due client body locks store before events none due = record {
    first = due.first;
    short = due.short;
    makes = record {
      reply = Replies client due.makes.reply;
      event = due.makes.event;
      after = shared due.makes.after locks;
      turn = lifted_turn client body due.makes.reply due.makes.event before due.makes.after locks locks due.makes.turn
          (same_owners client body due.makes.reply before locks none);
      some = due.makes.some;
    };
  }

  -- ---- the end of a group
  module _ (askers : List ReplyTo) (locks : List ClientLock) (told pending pending' : List ReplyValue) (events events' : List ℕ) (old new : Store D g)
      (before after : State) where
    abbrev from : GroupState Shared ClientReply D g
    from = shared_group_state old before locks askers pending events

    abbrev to : GroupState Shared ClientReply D g
    to = shared_group_state new after locks askers pending' events'

    pub lifted_settled : IsGroupCommitted server_machine told (grouping old before pending events) (grouping new after pending' events')
        → IsGroupCommitted shared_machine (told_to askers told) from to
    lifted_settled is = record {
      state = ap (λ (s : State). shared s locks) is.state;
      well = λ going. let due = is.well going in
          (ap (λ (l : List ReplyValue). told_to askers l) due.0, ap (λ (l : List ReplyValue). told_to askers l) due.1 ∙ told_none askers, due.2);
      broken = λ stopped. ap (λ (l : List ReplyValue). told_to askers l) (is.broken stopped) ∙ all_told_back askers pending;
      quiet = is.quiet;
      calls = is.calls;
      chosen = is.chosen;
      commits = is.commits;
      goes = is.goes;
    }

    pub lifted_idle : IsIdle told (grouping old before pending events) (grouping new after pending' events') → IsIdle (told_to askers told) from to
    lifted_idle is = record {
      none = ap (λ (l : List ReplyValue). told_to askers l) is.none ∙ told_none askers;
      nothing = ap (λ (l : List ReplyValue). told_to askers l) is.nothing ∙ told_none askers;
      store = is.store;
      state = ap (λ (s : State). shared s locks) is.state;
    }

    pub lifted_last : length askers ≡ length pending → IsLast server_machine told (grouping old before pending events) (grouping new after pending' events')
        → IsLast shared_machine (told_to askers told) from to
    lifted_last each is = record {
      was = is.was;
      some = λ none. is.some
          (empty pending (sym (told_length askers pending each) ∙ ap (λ (l : List ClientReply). length l) none));
      settled = lifted_settled is.settled;
    }
      where
        empty : (l : List ReplyValue) → length l ≡ 0 → l ≡ []
        empty [] e = refl
        empty (x ∷ l) e = absurd (omega (arith, e))

    pub lifted_flushed : length askers ≡ length pending → IsFlushed server_machine told (grouping old before pending events)
        (grouping new after pending' events') → IsFlushed shared_machine (told_to askers told) from to
    lifted_flushed each (inl idle) = inl (lifted_idle idle)
    lifted_flushed each (inr last) = inr (lifted_last each last)

    pub lifted_fault : IsAfterFault (grouping old before pending events) (grouping new after pending' events') → IsAfterFault from to
    lifted_fault is = record { was = is.was; is = is.is; disk = is.disk; state = ap (λ (s : State). shared s locks) is.state; goes = is.goes }

    pub lifted_ended : length askers ≡ length pending → IsEnded server_machine told (grouping old before pending events) (grouping new after pending' events')
        → IsEnded shared_machine (told_to askers told) from to
    lifted_ended each (inl idle) = inl (lifted_idle idle)
    lifted_ended each (inr (inl last)) = inr (inl (lifted_last each last))
    lifted_ended each (inr (inr left)) =
        inr (inr (record { over = lifted_fault left.over; nothing = ap (λ (l : List ReplyValue). told_to askers l) left.nothing ∙ told_none askers }))

  -- as many are told as were held
  flushed_length : (told : List ReplyValue) (old new : GroupState State ReplyValue D g) → IsFlushed server_machine told old new
      → length told ≡ length old.pending
  flushed_length told old new (inl idle) = ap (λ (l : List ReplyValue). length l) (idle.nothing ∙ sym idle.none)
  flushed_length told old new (inr last) = by (either new.store.stopped)
    where
      by : (new.store.stopped ≡ false) ⊎ (new.store.stopped ≡ true) → length told ≡ length old.pending
      by (inl going) = ap (λ (l : List ReplyValue). length l) (last.settled.well going).0
      by (inr stopped) = ap (λ (l : List ReplyValue). length l) (last.settled.broken stopped) ∙ length-map old.pending one_client.aborted_reply

  -- ---- a body that is taken
  module _ (size client : ℕ) (body : List ℕ) (asker : ReplyTo) (asker_is : asker ≡ record { client = client; why = None }) (askers : List ReplyTo)
      (locks : List ClientLock) (told pending pending' : List ReplyValue) (events events' : List ℕ) (old new : Store D g) (before after : State)
      (each : length askers ≡ length pending) (none : old.stopped ≡ false → (change : LockChange) → AsksLock before body change → ⊥)
      (apart_none : (state : State) (change : LockChange) → is_replacement body ≡ true → AsksLock state body change → ⊥)
      (late : old.stopped ≡ true → pending ≡ []) where
    abbrev all : List ReplyTo
    all = askers ++ asker ∷ []

    abbrev was : GroupState State ReplyValue D g
    was = grouping old before pending events

    abbrev was_shared : GroupState Shared ClientReply D g
    was_shared = shared_group_state old before locks askers pending events

    abbrev is_shared : GroupState Shared ClientReply D g
    is_shared = shared_group_state new after locks all pending' events'

    own : (reply : ReplyValue) → told_to (asker ∷ []) (reply ∷ []) ≡ Replies client reply ∷ []
    own reply = ap (λ (a : ReplyTo). told_to (a ∷ []) (reply ∷ [])) asker_is

    more : (replies : List ReplyValue) (reply : ReplyValue) → length askers ≡ length replies → told_to all (replies ++ reply ∷ []) ≡ told_to askers replies
        ++ Replies client reply ∷ []
    more replies reply e = told_both askers (asker ∷ []) replies (reply ∷ []) e ∙ ap (λ (l : List ClientReply). told_to askers replies ++ l) (own reply)

    longer : (replies : List ReplyValue) (reply : ReplyValue) → replies ≡ pending ++ reply ∷ [] → length (told_to all replies) ≡ length replies
    longer replies reply are =
        told_length all replies (length-append askers (asker ∷ []) ∙ ap (λ (n : ℕ). n + 1) each
        ∙ sym (ap (λ (l : List ReplyValue). length l) are ∙ length-append pending (reply ∷ [])))

    lifted_held : (reply : ReplyValue) (event : List ℕ) (now : GroupState State ReplyValue D g) → old.stopped ≡ false
        → IsBuffered server_machine (exchange body reply event) was now
        → IsBuffered shared_machine (exchange (tagged_body client (Body body)) (Replies client reply) event) was_shared
        (shared_group_state now.store now.state locks all now.pending now.events)
    lifted_held reply event now going is = record {
      turn = lifted_turn client body reply event before now.state locks locks is.turn (same_owners client body reply before locks (none going));
      plain = is.plain;
      pending = ap (λ (l : List ReplyValue). told_to all l) is.pending ∙ more pending reply each;
      events = is.events;
      going = is.going;
      calls = by is.calls;
      carries = is.carries;
      goes = is.goes;
    }
      where
        by : (now.store.disk ≡ old.disk) ⊎ IsDue server_machine old before events body → (now.store.disk ≡ old.disk) ⊎ IsDue shared_machine old
            (shared before locks) events (tagged_body client (Body body))
        by (inl quiet) = inl quiet
        by (inr due) = inr (lifted_due client body locks old before events (none going) due)

    filled : (b : Bool) (now : GroupState State ReplyValue D g) (reply : ReplyValue) → now.pending ≡ pending ++ reply ∷ []
        → fills size (length now.pending) (length now.events) ≡ b
        → fills size (length (told_to all now.pending)) (length now.events) ≡ b
    filled b now reply are is = ap (λ (n : ℕ). fills size n (length now.events)) (longer now.pending reply are) ∙ is

    lifted_alone : (reply : ReplyValue) (own_told : List ReplyValue) (mid : GroupState State ReplyValue D g) → is_replacement body ≡ true
        → IsBarrierAnswered server_machine (exchange body reply []) own_told mid (grouping new after pending' events')
        → IsBarrierAnswered shared_machine (exchange (tagged_body client (Body body)) (Replies client reply) []) (told_to (asker ∷ []) own_told)
        (shared_group_state mid.store mid.state locks askers mid.pending mid.events) is_shared
    lifted_alone reply own_told mid kind is = record {
      turn = lifted_turn client body reply [] mid.state after locks locks is.turn
          (same_owners client body reply mid.state locks (λ change asks. apart_none mid.state change kind asks));
      barrier = kind;
      none = refl;
      idle = (ap (λ (l : List ReplyValue). told_to askers l) is.idle.0 ∙ told_none askers, is.idle.1);
      idle_still = (ap (λ (l : List ReplyValue). told_to all l) is.idle_still.0 ∙ told_none all, is.idle_still.1);
      well = λ going. ap (λ (l : List ReplyValue). told_to (asker ∷ []) l) (is.well going) ∙ own reply;
      broken = λ stopped. ap (λ (l : List ReplyValue). told_to (asker ∷ []) l) (is.broken stopped) ∙ own (one_client.fault_reply body);
      doubt = is.doubt;
      quiet = is.quiet;
      once = is.once;
      any_moment = λ holds. is.any_moment (record { shape = holds.shape; has = holds.has; all = holds.all });
      each = λ going holds. let due = is.each going (record { shape = holds.shape; has = holds.has; all = holds.all }) in
          record { shape = due.shape; has = due.has; all = due.all };
      goes = is.goes;
    }

    lifted_apart : IsApart server_machine body told was (grouping new after pending' events') → IsApart shared_machine (tagged_body client (Body body))
        (told_to all told) was_shared is_shared
    lifted_apart is = record {
      was = is.was;
      barrier = is.barrier;
      mid = shared_group_state is.mid.store is.mid.state locks askers is.mid.pending is.mid.events;
      before = told_to askers is.before;
      after = told_to (asker ∷ []) is.after;
      told_are = ap (λ (l : List ReplyValue). told_to all l) is.told_are ∙ told_both askers (asker ∷ []) is.before is.after
          (each ∙ sym (flushed_length is.before was is.mid is.flushed));
      flushed = lifted_flushed askers locks is.before pending is.mid.pending events is.mid.events old is.mid.store before is.mid.state each is.flushed;
      going = λ going. let due = is.going going in (Replies client due.0, lifted_alone due.0 is.after is.mid is.barrier due.1);
      late = λ stopped.
          let due = is.late stopped in (
            ap (λ (l : List ReplyValue). told_to (asker ∷ []) l) due.0 ∙ own (one_client.failed_reply body),
            record { was = due.1.was; is = due.1.is; disk = due.1.disk; state = ap (λ (s : State). shared s locks) due.1.state; goes = due.1.goes },
          );
    }

    pub lifted_taken : IsAdmitted server_machine size body told was (grouping new after pending' events')
        → IsAdmitted shared_machine size (tagged_body client (Body body)) (told_to all told) was_shared is_shared
    lifted_taken (inl kept) = inl (record {
      was = kept.was;
      reply = Replies client kept.reply;
      event = kept.event;
      held = lifted_held kept.reply kept.event (grouping new after pending' events') kept.was kept.held;
      short = filled false (grouping new after pending' events') kept.reply kept.held.pending kept.short;
      nothing = ap (λ (l : List ReplyValue). told_to all l) kept.nothing ∙ told_none all;
    })
    lifted_taken (inr (inl full)) = inr (inl (record {
      was = full.was;
      reply = Replies client full.reply;
      event = full.event;
      mid = shared_group_state full.mid.store full.mid.state locks all full.mid.pending full.mid.events;
      held = lifted_held full.reply full.event full.mid full.was full.held;
      full = filled true full.mid full.reply full.held.pending full.full;
      settled = lifted_settled all locks told full.mid.pending pending' full.mid.events events' full.mid.store new full.mid.state after full.settled;
    }))
    lifted_taken (inr (inr (inl fault))) = inr (inr (inl (record {
      was = fault.was;
      failed = record {
        reply = Replies client fault.failed.reply;
        event = fault.failed.event;
        turn = lifted_turn client body fault.failed.reply fault.failed.event before after locks locks fault.failed.turn
            (same_owners client body fault.failed.reply before locks (none fault.was));
        plain = fault.failed.plain;
        due = lifted_due client body locks old before events (none fault.was) fault.failed.due;
        none = fault.failed.none;
        same = fault.failed.same;
        told_are = ap (λ (l : List ReplyValue). told_to all l) fault.failed.told_are
            ∙ more (map one_client.aborted_reply pending) (one_client.fault_reply body) (each ∙ sym (length-map pending one_client.aborted_reply))
            ∙ ap (λ (l : List ClientReply). l ++ fault_client_reply (tagged_body client (Body body)) ∷ []) (all_told_back askers pending);
        stopped = fault.failed.stopped;
        any_moment = fault.failed.any_moment;
        once = fault.failed.once;
        goes = fault.failed.goes;
      };
    })))
    lifted_taken (inr (inr (inr (inl too_late)))) =
        let nobody : askers ≡ [] = no_askers askers (each ∙ ap (λ (l : List ReplyValue). length l) (late too_late.over.was)) in
        inr (inr (inr (inl (record {
          over = record {
            was = too_late.over.was;
            is = too_late.over.is;
            disk = too_late.over.disk;
            state = ap (λ (s : State). shared s locks) too_late.over.state;
            goes = too_late.over.goes;
          };
          told_is = ap (λ (l : List ReplyValue). told_to all l) too_late.told_is
              ∙ ap (λ (l : List ReplyTo). told_to (l ++ asker ∷ []) (one_client.failed_reply body ∷ [])) nobody ∙ own (one_client.failed_reply body);
        }))))
    lifted_taken (inr (inr (inr (inr apart)))) = inr (inr (inr (inr (lifted_apart apart))))
