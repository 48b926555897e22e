-- An open group, and its end.
use Rattle.std.proofs.Common.{rules, ◌≡◌, ℕ, ◌+◌, ◌<◌, ◌≤◌, ◌++◌, IsTrue, true, false, true≢false, List, [], ◌∷◌, length, map, refl}
use Rattle.std.proofs.Common.{sym, ◌∙◌, arith}
use Rattle.oa_disk.specs.declared.disk.Disk.{Ghosts}
use Rattle.oa_group_commit.specs.promise.Groups.{IsBuffered, IsGroupCommitted, fills, exchange}
use Rattle.oa_store.specs.promise.Writing.{DeviceFrame}
use Rattle.oa_store.specs.promise.Holding.{CommitsAtomically, PreservesCommitted}
use Rattle.oa_record.specs.promise.Replacement.{is_replacement}
use Rattle.oa_record.specs.promise.Replies.{ReplyValue}
use Rattle.oa_store.specs.declared.store.Store.{Store}
use Rattle.oa_server.specs.OpenGroups.{CallsWhereDue, IsReady, grouping}
use Rattle.oa_server.specs.ServerMachine.{IsHeldBack}
use Rattle.oa_server.specs.promise.ServerMachine.{aborted_reply, server_machine}
use Rattle.oa_turn.specs.promise.Events.{held_of}
use Rattle.oa_decision.specs.promise.States.{State}

-- a group that goes on has a place
pub few_held : (size count bytes : ℕ) → fills size count bytes ≡ false → count < size
unfolding fills
few_held size count bytes small = search rules

module _ {D : Type 0} {g : Ghosts D} (old new : Store D g) (state : State) (pending : List ReplyValue) (events events' : List ℕ) (says : DeviceFrame old new)
    (commits : CommitsAtomically events old new) (quiet : length events ≡ 0 → (new.disk ≡ old.disk) × (new.stopped ≡ false))
    (calls : IsTrue (g.is_honest old.disk) → g.moment new.disk ≤ g.moment old.disk + 8) (chosen : new.chosen ≡ old.chosen) where
  -- the group is committed
  pub settled : events' ≡ [] → new.stopped ≡ false → IsGroupCommitted server_machine pending (grouping old state pending events) (grouping new state [] events')
  settled empty going = record {
    state = refl;
    well = λ goes_on. (refl, refl, empty);
    broken = λ stopped. absurd (true≢false (sym stopped ∙ going));
    quiet = quiet;
    calls = calls;
    chosen = chosen;
    commits = commits;
    goes = says;
  }

  -- it is taken back
  pub taken_back : (told : List ReplyValue) → told ≡ map aborted_reply pending → new.stopped ≡ true
      → IsGroupCommitted server_machine told (grouping old state pending events) (grouping new state [] events')
  taken_back told back stopped = record {
    state = refl;
    well = λ goes_on. absurd (true≢false (sym stopped ∙ goes_on));
    broken = λ stops. back;
    quiet = quiet;
    calls = calls;
    chosen = chosen;
    commits = commits;
    goes = says;
  }

-- no group is open
pub ready_none : {D : Type 0} {g : Ghosts D} (store : Store D g) (size places : ℕ) → 1 ≤ size → size ≤ places → IsReady store size places [] []
ready_none store size places some place = record {
  place = place;
  few = omega (arith, some);
  room = λ going filled. absurd (omega (arith, filled));
  small = λ going. omega arith;
  late = λ stopped. refl;
}

pub ready_at : {D : Type 0} {g : Ghosts D} (store : Store D g) (size places : ℕ) (pending : List ReplyValue) (events : List ℕ) → 1 ≤ size → size ≤ places
    → pending ≡ [] → events ≡ [] → IsReady store size places pending events
ready_at store size places pending events some place none empty = rw (none, empty) (ready_none store size places some place)

-- a request is held
pub held_one : {D : Type 0} {g : Ghosts D} (old new : Store D g) (body : List ℕ) (reply : ReplyValue) (before after : State)
    (pending pending' : List ReplyValue) (events events' : List ℕ)
    (turn : IsHeldBack body reply events events' before after) → pending' ≡ pending ++ reply ∷ [] → new.stopped ≡ false
    → PreservesCommitted events (held_of before) old new → CallsWhereDue old new before events body → DeviceFrame old new → is_replacement body ≡ false
    → IsBuffered server_machine (exchange body reply turn.event) (grouping old before pending events) (grouping new after pending' events')
held_one old new body reply before after pending pending' events events' turn more going carries calls says plain = record {
  turn = turn.asked;
  plain = plain;
  pending = more;
  events = turn.added;
  going = going;
  calls = calls;
  carries = carries;
  goes = says;
}
