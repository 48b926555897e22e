-- What is held for many clients.
use Rattle.std.proofs.Common.{◌≡◌, inl, inr, ℕ, ◌+◌, Bool, true, false, IsTrue, List, [], ◌∷◌, ◌++◌, length, map, Option, None, refl, sym, ap, ◌∙◌, subst}
use Rattle.std.proofs.Common.{arith}
use Rattle.std.proofs.lemmas.List.{append-nil, length-append}
use Rattle.oa_disk.specs.declared.disk.Disk.{Ghosts}
use Rattle.oa_frame.specs.declared.ends.End.{End}
use Rattle.oa_frame.specs.declared.ends.End.TheVariants.{Closed, Cut, TooLong, BadHex, ReadFault, WriteFault}
use Rattle.oa_group_commit.specs.promise.Groups.{fills, GroupState, IsAdmitted, IsBuffered, IsEnded, IsGroupCommitted}
use Rattle.oa_group_commit.specs.promise.Groups.{exchange}
use Rattle.oa_group_commit.specs.Simple.{no_event}
use Rattle.oa_group_commit.proofs.Stores.{goes_nowhere}
use Rattle.oa_journal.specs.promise.Bank.{Replays}
use Rattle.oa_store.proofs.Committed.{still_carried}
use Rattle.oa_turn.specs.promise.ClientLocks.{ClientLock}
use Rattle.oa_decision.specs.declared.decision.LockChange.{LockChange}
use Rattle.oa_record.specs.promise.Replies.{ReplyValue, reply_record}
use Rattle.oa_server.specs.SharedGroups.{ClearsDesk, IsEventless, cleared_desk, told_at}
use Rattle.oa_server.specs.promise.SharedSessions.{all_frames, shared_group_state, shared_group_state_of, told_to}
use Rattle.oa_server.specs.promise.SharedSessions.{told_with, TakesOver}
use Rattle.oa_server.specs.OpenGroups.{grouping}
use Rattle.oa_server.specs.promise.ServerMachine.{server_machine}
use Rattle.oa_server.specs.promise.SharedMachine.{shared_machine, ClientReply, Leaves, Replies, Shared, behind_end}
use Rattle.oa_server.specs.promise.SharedMachine.{shared, tagged_body}
use Rattle.oa_server.specs.Sharing.{IsLockTurn}
use Rattle.oa_server.specs.declared.desk.ReplyTo.{ReplyTo}
use Rattle.oa_server.specs.declared.desk.SharedGroup.{SharedGroup}
use Rattle.oa_server.proofs.Lifted.{lifted_settled, lifted_taken, told_both, told_length, told_none}
use Rattle.oa_server.proofs.PutFrames.{no_told}
use Rattle.oa_mux.specs.promise.Marks.{Flush, Of}
use Rattle.oa_mux.specs.promise.Readers.{Body, Brought, Ends}
use Rattle.oa_store.specs.declared.store.Store.{Store}
use Rattle.oa_decision.specs.promise.States.{State}
use Rattle.oa_table.specs.promise.Tables.{TableValue}
use Rattle.oa_turn.specs.promise.Events.{held_of}
use Rattle.oa_turn.specs.promise.Locking.{AsksLock}

none_made : (old new : TableValue) → new ≡ old → Replays [] old new
none_made old new same = subst (λ (t : TableValue). Replays [] old t) (sym same) (no_event old)

-- a change of a lock
pub lock_eventless : (client : ℕ) (body : List ℕ) (reply : ReplyValue) (before after : Shared) → IsLockTurn client body reply before after
    → IsEventless (tagged_body client (Body body)) (Replies client reply) before after
lock_eventless client body reply before after one = record {
  turn = record {
    client = client;
    brought = Body body;
    body_is = refl;
    turn = record { reply = reply; told_is = refl; turn = one.turn };
    made = one.made;
    replays = none_made (held_of before.state) (held_of after.state) one.same;
  };
  plain = one.plain;
  same = one.same;
}

-- a client's end
pub end_eventless : (client : ℕ) (why : End) (before after : Shared) → after ≡ behind_end client before → held_of after.state ≡ held_of before.state
    → IsEventless (tagged_body client (Ends why)) (Leaves client why) before after
end_eventless client why before after is same = record {
  turn = record {
    client = client;
    brought = Ends why;
    body_is = refl;
    turn = record { told_is = refl; behind = is };
    made = refl;
    replays = none_made (held_of before.state) (held_of after.state) same;
  };
  plain = plain_end why;
  same = same;
}
  where
    plain_end : (w : End) → shared_machine.barrier (tagged_body client (Ends w)) ≡ false
    plain_end Closed = refl
    plain_end Cut = refl
    plain_end TooLong = refl
    plain_end (BadHex line) = refl
    plain_end ReadFault = refl
    plain_end WriteFault = refl

module _ {D : Type 0} {g : Ghosts D} (only : (d : D) (c : List ℕ) → IsTrue (g.is_honest d) → g.image_since d (g.moment d) c → g.image d c) (store : Store D g)
    (going : store.stopped ≡ false) (size : ℕ) (asker : ReplyTo) (askers : List ReplyTo) (reply : ReplyValue) (replies replies' : List ReplyValue)
    (events : List ℕ) (locks : List ClientLock) (state : State)
    (each : length askers ≡ length replies) (more : replies' ≡ replies ++ reply ∷ []) where
  abbrev all : List ReplyTo
  all = askers ++ asker ∷ []

  abbrev own : ClientReply
  own = told_with asker.client asker.why reply

  abbrev was : Shared → GroupState Shared ClientReply D g
  was before = record { store = store; state = before; pending = told_to askers replies; events = events }

  abbrev mid : GroupState Shared ClientReply D g
  mid = shared_group_state store state locks all replies' events

  as_long : length (told_to all replies') ≡ length replies'
  as_long =
      told_length all replies' (length-append askers (asker ∷ []) ∙ ap (λ (n : ℕ). n + 1) each
      ∙ sym (ap (λ (l : List ReplyValue). length l) more ∙ length-append replies (reply ∷ [])))

  filled : (b : Bool) → fills size (length replies') (length events) ≡ b → fills size (length (told_to all replies')) (length events) ≡ b
  filled b is = ap (λ (n : ℕ). fills size n (length events)) as_long ∙ is

  is_held : (before : Shared) (body : List ℕ) → IsEventless body own before (shared state locks) → IsBuffered shared_machine (exchange body own [])
      (was before) mid
  is_held before body one = record {
    turn = one.turn;
    plain = one.plain;
    pending = ap (λ (l : List ReplyValue). told_to all l) more ∙ told_both askers (asker ∷ []) replies (reply ∷ []) each;
    events = sym (append-nil events);
    going = going;
    calls = inl refl;
    carries = still_carried only events (held_of before.state) store;
    goes = goes_nowhere store;
  }

  pub kept_on : (before : Shared) (body : List ℕ) → IsEventless body own before (shared state locks) → fills size (length replies') (length events) ≡ false
      → IsAdmitted shared_machine size body [] (was before) mid
  kept_on before body one small =
      inl (record { was = going; reply = own; event = []; held = is_held before body one; short = filled false small; nothing = refl })

  pub fills_up : (before : Shared) (body : List ℕ) (new : Store D g) (told pending' : List ReplyValue) (events' : List ℕ)
      → IsEventless body own before (shared state locks) → fills size (length replies') (length events) ≡ true
      → IsGroupCommitted server_machine told (grouping store state replies' events) (grouping new state pending' events')
      → IsAdmitted shared_machine size body (told_to all told) (was before) (shared_group_state new state locks all pending' events')
  fills_up before body new told pending' events' one full settled = inr (inl (record {
    was = going;
    reply = own;
    event = [];
    mid = mid;
    held = is_held before body one;
    full = filled true full;
    settled = lifted_settled all locks told replies' pending' events events' store new state state settled;
  }))

-- nothing is told where nothing was
pub none_told : {D : Type 0} {g : Ghosts D} (size : ℕ) (body : List ℕ) (askers : List ReplyTo) (old new : GroupState Shared ClientReply D g)
    → IsAdmitted shared_machine size body (told_to askers []) old new → IsAdmitted shared_machine size body [] old new
none_told size body askers old new is = subst (λ (l : List ClientReply). IsAdmitted shared_machine size body l old new) (told_none askers) is

-- the open group has ended, whatever is said of its events then
pub with_no_events : {D : Type 0} {g : Ghosts D} (told pending pending' : List ReplyValue) (events events' : List ℕ) (old new : Store D g)
    (before after : State) → IsEnded server_machine told (grouping old before pending events) (grouping new after pending' events')
    → IsEnded server_machine told (grouping old before pending events) (grouping new after pending' [])
with_no_events told pending pending' events events' old new before after (inl idle) =
    inl (record { none = idle.none; nothing = idle.nothing; store = idle.store; state = idle.state })
with_no_events told pending pending' events events' old new before after (inr (inl last)) = inr (inl (record {
  was = last.was;
  some = last.some;
  settled = record {
    state = last.settled.state;
    well = λ going. let due = last.settled.well going in (due.0, due.1, refl);
    broken = last.settled.broken;
    quiet = last.settled.quiet;
    calls = last.settled.calls;
    chosen = last.settled.chosen;
    commits = last.settled.commits;
    goes = last.settled.goes;
  };
}))
with_no_events told pending pending' events events' old new before after (inr (inr left)) = inr (inr (record {
  over = record { was = left.over.was; is = left.over.is; disk = left.over.disk; state = left.over.state; goes = left.over.goes };
  nothing = left.nothing;
}))

-- where nothing was done before
pub same_from : {D : Type 0} {g : Ghosts D} (size : ℕ) (body : List ℕ) (told : List ClientReply) (store : Store D g) (before between : State)
    (locks locks' : List ClientLock) (askers : List ReplyTo) (pending : List ReplyValue) (events : List ℕ) (new : GroupState Shared ClientReply D g)
    → between ≡ before → locks' ≡ locks → IsAdmitted shared_machine size body told (shared_group_state store between locks' askers pending events) new
    → IsAdmitted shared_machine size body told (shared_group_state store before locks askers pending events) new
same_from size body told store before between locks locks' askers pending events new same same_locks is =
    subst (λ (l : List ClientLock). IsAdmitted shared_machine size body told (shared_group_state store before l askers pending events) new) same_locks
    (subst (λ (s : State). IsAdmitted shared_machine size body told (shared_group_state store s locks' askers pending events) new) same is)

-- what is held was handed out
pub cleared_is : {D : Type 0} {g : Ghosts D} (store : Store D g) (state : State) (old new : SharedGroup) → ClearsDesk old new
    → cleared_desk {g = g} store state old ≡ shared_group_state_of store state new
cleared_is {D} {g} store state old new is =
    ap (λ (l : List ClientLock). at l (told_to old.askers.items []) old.open_group.batch) (sym is.owners)
    ∙ ap (λ (l : List ClientReply). at new.owners l old.open_group.batch)
    (told_none old.askers.items ∙ sym (ap (λ (l : List ReplyValue). told_to new.askers.items l) is.replies ∙ told_none new.askers.items))
    ∙ ap (λ (l : List ℕ). at new.owners (told_at new) l) (sym is.batch)
  where
    at : List ClientLock → List ClientReply → List ℕ → GroupState Shared ClientReply D g
    at locks pending events = record { store = store; state = shared state locks; pending = pending; events = events }

-- *now* over a store, and a client's turn there
pub now_over : {D : Type 0} {g : Ghosts D} (old new : Store D g) (state : State) (desk between last : SharedGroup) → ClearsDesk between last
    → between.open_group.size ≡ desk.open_group.size → between.open_group.batch ≡ []
    → IsEnded shared_machine (told_at between) (shared_group_state_of old state desk) (cleared_desk new state between)
    → TakesOver old state desk Flush (all_frames (told_at between)) new state last
now_over {D} {g} old new state desk between last clears size empty is = record {
  told = told_at between;
  are = refl;
  size = clears.size ∙ size;
  taken = (
    subst (λ (n : GroupState Shared ClientReply D g). IsEnded shared_machine (told_at between) (shared_group_state_of old state desk) n)
        (cleared_is {g = g} new state between last clears) is,
    ap (λ (l : List ReplyValue). told_to last.askers.items l) clears.replies ∙ told_none last.askers.items,
    clears.batch ∙ empty,
  );
}

pub told_over : {D : Type 0} {g : Ghosts D} (old new : Store D g) (before after : State) (desk between last : SharedGroup) (client : ℕ) (brought : Brought)
    → ClearsDesk between last → between.open_group.size ≡ desk.open_group.size
    → IsAdmitted shared_machine desk.open_group.size (tagged_body client brought) (told_at between) (shared_group_state_of old before desk)
    (cleared_desk new after between) → TakesOver old before desk (Of client brought) (all_frames (told_at between)) new after last
told_over {D} {g} old new before after desk between last client brought clears size is = record {
  told = told_at between;
  are = refl;
  size = clears.size ∙ size;
  taken =
      subst (λ (n : GroupState Shared ClientReply D g). IsAdmitted shared_machine desk.open_group.size (tagged_body client brought) (told_at between)
      (shared_group_state_of old before desk) n) (cleared_is {g = g} new after between last clears) is;
}

pub held_over : {D : Type 0} {g : Ghosts D} (old new : Store D g) (before after : State) (desk last : SharedGroup) (client : ℕ) (brought : Brought)
    → last.open_group.size ≡ desk.open_group.size
    → IsAdmitted shared_machine desk.open_group.size (tagged_body client brought) [] (shared_group_state_of old before desk)
    (shared_group_state_of new after last) → TakesOver old before desk (Of client brought) [] new after last
held_over old new before after desk last client brought size is = record { told = []; are = sym no_told; size = size; taken = is }

-- a body that is taken where nothing is held, and answered at once
pub lifted_alone : {D : Type 0} {g : Ghosts D} (size client : ℕ) (body : List ℕ) (askers : List ReplyTo) (locks : List ClientLock) (reply : ReplyValue)
    (pending pending' : List ReplyValue) (events events' : List ℕ) (old new : Store D g) (before after : State)
    → length askers ≡ length pending → pending ≡ [] → pending' ≡ [] → ((state : State) (change : LockChange) → AsksLock state body change → ⊥)
    → IsAdmitted server_machine size body (reply ∷ []) (grouping old before pending events) (grouping new after pending' events')
    → IsAdmitted shared_machine size (tagged_body client (Body body)) (Replies client reply ∷ []) (shared_group_state old before locks askers pending events)
    (shared_group_state new after locks askers pending' events')
lifted_alone {D} {g} size client body [] locks reply [] [] events events' old new before after each none none' asks is =
    lifted_taken {g = g} size client body (record { client = client; why = None }) refl [] locks (reply ∷ []) [] [] events events' old new before after refl
    (λ _. asks before) (λ state change _. asks state change) (λ _. refl) is
lifted_alone {D} {g} size client body (y ∷ ys) locks reply [] [] events events' old new before after each none none' asks is = absurd (omega (arith, each))
lifted_alone {D} {g} size client body askers locks reply (x ∷ xs) pending' events events' old new before after each none none' asks is =
    absurd (omega (arith, ap (λ (l : List ReplyValue). length l) none))
lifted_alone {D} {g} size client body askers locks reply [] (x ∷ xs) events events' old new before after each none none' asks is =
    absurd (omega (arith, ap (λ (l : List ReplyValue). length l) none'))

pub alone_over : {D : Type 0} {g : Ghosts D} (old new : Store D g) (before after : State) (desk last : SharedGroup) (client : ℕ) (body : List ℕ)
    (reply : ReplyValue) → last.open_group.size ≡ desk.open_group.size
    → IsAdmitted shared_machine desk.open_group.size (tagged_body client (Body body)) (Replies client reply ∷ []) (shared_group_state_of old before desk)
    (shared_group_state_of new after last) → TakesOver old before desk (Of client (Body body)) ((client, reply_record reply) ∷ []) new after last
unfolding all_frames
alone_over old new before after desk last client body reply size is = record { told = Replies client reply ∷ []; are = refl; size = size; taken = is }
