-- The requests of many clients.
use Rattle.std.specs.Prelude.{◌≡◌, ◌⊎◌, ℕ, ◌==◌, Bool, true, false, if◌then◌else◌, List, [], ◌∷◌, map, Some, None, ⊤}
use Rattle.std.specs.Prelude.{◌++◌}
use Rattle.oa_frame.specs.declared.ends.End.{End}
use Rattle.oa_frame.specs.declared.ends.End.TheVariants.{Closed, Cut, TooLong, BadHex, ReadFault, WriteFault}
use Rattle.oa_group_commit.specs.promise.Groups.{Exchange, StateMachine, IsServed}
use Rattle.oa_journal.specs.promise.Bank.{Replays}
use Rattle.oa_model.specs.promise.Codes.{e_unexpected, stg_e_writefault}
use Rattle.oa_turn.specs.promise.ClientLocks.{ClientLock, cells_of, of_others, owns, with_one, without_one}
use Rattle.oa_record.specs.promise.Asks.{tag_at}
use Rattle.oa_record.specs.promise.Replacement.{is_replacement}
use Rattle.oa_record.specs.promise.Replies.{ReplyValue}
use Rattle.oa_server.specs.promise.ServerMachine as one_client
use Rattle.oa_mux.specs.promise.Readers.{Brought, Body, Ends}
use Rattle.oa_table.specs.declared.name.CellName.{CellName}
use Rattle.oa_decision.specs.promise.Decided.{refusal}
use Rattle.oa_decision.specs.promise.States.{State}
use Rattle.oa_decision.specs.declared.decision.LockChange.{LockChange}
use Rattle.oa_decision.specs.declared.decision.LockChange.TheVariants.{Lock, Unlock}
use Rattle.oa_turn.specs.promise.Events.{HasEvent, held_of}
use Rattle.oa_turn.specs.promise.Events as turns
use Rattle.oa_turn.specs.promise.Locking.{AsksLock}
use Rattle.oa_turn.specs.promise.Steps.{after_locks, relocked, with_table}
use Rattle.oa_turn.specs.promise.Turns.{Turn}
use Rattle.std.proofs.Common.{inl, inr, true≢false, Result, Ok, Err, refl, sym, ap, ◌∙◌}
use Rattle.oa_printer.specs.promise.Canonical.{canonical}
use Rattle.oa_table.specs.promise.Tables.{TableValue, unlocked_table}
use Rattle.oa_table.specs.declared.fault.TableFault.{TableFault}
use Rattle.oa_turn.proofs.NoTrace.{not_done, quiet_turn}
use Rattle.oa_turn.proofs.Relocked.{unlock_stays, unlocked_twice}
use Rattle.oa_turn.proofs.SameLibrary.{plain_library, turn_bank}
use Rattle.oa_turn.proofs.Tags.{turn_tag}
use Rattle.oa_turn.specs.promise.Plans.{HoldsSame}
use Rattle.oa_disk.specs.declared.disk.Disk.{Ghosts}
use Rattle.oa_store.specs.declared.store.Store.{Store}

-- A server of many clients: its state with the owners of its locks, and its turns for what a client sends. (This
-- project's choice.)

-- the state on which replies depend, and the owners of locks
pub record Shared : Type 0 where
  pub state : State
  pub locks : List ClientLock

abbrev pub shared : State → List ClientLock → Shared
shared state locks = record { state = state; locks = locks }

-- ---- what a client sends, and what it receives

-- As one list of numbers, as the theory of groups has requests: the client, 0 and its body; or the client and the
-- kind of its end.
abbrev pub spoken : Brought → List ℕ
spoken (Body body) = 0 ∷ body
spoken (Ends Closed) = 1 ∷ []
spoken (Ends Cut) = 2 ∷ []
spoken (Ends TooLong) = 3 ∷ []
spoken (Ends ReadFault) = 4 ∷ []
spoken (Ends WriteFault) = 5 ∷ []
spoken (Ends (BadHex line)) = 6 ∷ line ∷ []

abbrev pub tagged_body : ℕ → Brought → List ℕ
tagged_body client brought = client ∷ spoken brought

-- the other way round
abbrev pub line_in : List ℕ → ℕ
line_in [] = 0
line_in (line ∷ rest) = line

abbrev pub meant : ℕ → List ℕ → Brought
meant kind rest = if kind == 0 then Body rest
    else if kind == 1 then Ends Closed
    else if kind == 2 then Ends Cut
    else if kind == 3 then Ends TooLong
    else if kind == 4 then Ends ReadFault
    else if kind == 5 then Ends WriteFault
    else Ends (BadHex (line_in rest))

abbrev pub client_in : List ℕ → ℕ
client_in [] = 0
client_in (client ∷ rest) = client

abbrev pub brought_by : List ℕ → Brought
brought_by [] = Body []
brought_by (client ∷ []) = Body []
brought_by (client ∷ (kind ∷ rest)) = meant kind rest

-- what a client receives: the reply to a body; or its end, with bad stub data if its last record was cut or too long
pub data ClientReply : Type 0 where
  Replies : ℕ → ReplyValue → ClientReply
  Leaves : ℕ → End → ClientReply

abbrev pub aborted_client_reply : ClientReply → ClientReply
aborted_client_reply (Replies client reply) = Replies client (one_client.aborted_reply reply)
aborted_client_reply (Leaves client why) = Leaves client why

abbrev pub is_client_done : ClientReply → Bool
is_client_done (Replies client reply) = turns.is_done reply
is_client_done (Leaves client why) = true

abbrev pub told_by : (List ℕ → ReplyValue) → ℕ → Brought → ClientReply
told_by code client (Body body) = Replies client (code body)
told_by code client (Ends why) = Leaves client why

abbrev pub fault_client_reply : List ℕ → ClientReply
fault_client_reply body = told_by one_client.fault_reply (client_in body) (brought_by body)

abbrev pub failed_client_reply : List ℕ → ClientReply
failed_client_reply body = told_by one_client.failed_reply (client_in body) (brought_by body)

abbrev pub is_apart : Brought → Bool
is_apart (Body body) = is_replacement body
is_apart (Ends why) = false

-- ---- whose lock is whose

-- A client may lock any array, and release its own locks.
abbrev pub MayChange : ℕ → LockChange → List ClientLock → Type 0
MayChange client (Lock name) locks = ⊤
MayChange client (Unlock name) locks = owns client name locks ≡ true

abbrev pub relocked_by : ℕ → LockChange → List ClientLock → List ClientLock
relocked_by client (Lock name) locks = with_one client name locks
relocked_by client (Unlock name) locks = without_one client name locks

-- Only a LOCK and an UNLOCK that are done change the owners of locks.
pub record HasOwners (client : ℕ) (old : Shared) (body : List ℕ) (reply : ReplyValue)
    (locks : List ClientLock) : Type 0 where
  pub done : (change : LockChange) → AsksLock old.state body change → turns.is_done reply ≡ true
      → MayChange client change old.locks × (locks ≡ relocked_by client change old.locks)
  pub others : ((change : LockChange) → AsksLock old.state body change → ⊥) → locks ≡ old.locks
  pub undone : turns.is_done reply ≡ false → locks ≡ old.locks

-- the cells' locks are released, one for each name if there is one
abbrev pub taken_back : List CellName → State → State
taken_back [] state = state
taken_back (name ∷ names) state = taken_back names (after_locks state (Some (Unlock name)))

-- after a client's end: all of its locks are released
abbrev pub behind_end : ℕ → Shared → Shared
behind_end client old =
    record { state = taken_back (cells_of client old.locks) old.state; locks = of_others client old.locks }

-- after the end of a session: all locks that clients still have are released
abbrev pub all_released : Shared → Shared
all_released old = record { state = taken_back (map (λ lock. lock.name) old.locks) old.state; locks = [] }

-- ---- turns

-- a turn as in a server of one client
pub record TakesTurn (client : ℕ) (body : List ℕ) (reply : ReplyValue) (old new : Shared) : Type 0 where
  pub turn : Turn old.state body reply new.state
  pub owners : HasOwners client old body reply new.locks

-- an UNLOCK of an array on which the client has no lock, whatever locks others have on it; nothing changes
pub record RefusesUnlock (client : ℕ) (body : List ℕ) (reply : ReplyValue) (old new : Shared) : Type 0 where
  pub name : CellName
  pub asked : AsksLock old.state body (Unlock name)
  pub none : owns client name old.locks ≡ false
  pub told : reply ≡ refusal (tag_at body) e_unexpected None
  pub same : new ≡ old

abbrev pub TurnsFor : ℕ → List ℕ → ReplyValue → Shared → Shared → Type 0
TurnsFor client body reply old new = TakesTurn client body reply old new ⊎ RefusesUnlock client body reply old new

-- a client's body is answered
pub record AnswersClientBody (client : ℕ) (body : List ℕ) (told : ClientReply) (old new : Shared) : Type 0 where
  pub reply : ReplyValue
  pub told_is : told ≡ Replies client reply
  pub turn : TurnsFor client body reply old new

-- a client ends: it receives its end, and all of its locks are released
pub record AnswersEnd (client : ℕ) (why : End) (told : ClientReply) (old new : Shared) : Type 0 where
  pub told_is : told ≡ Leaves client why
  pub behind : new ≡ behind_end client old

abbrev pub SharedTurnOf : ℕ → Brought → ClientReply → Shared → Shared → Type 0
SharedTurnOf client (Body body) told old new = AnswersClientBody client body told old new
SharedTurnOf client (Ends why) told old new = AnswersEnd client why told old new

-- the bytes of the event that it made
abbrev pub EventOf : State → Brought → ClientReply → List ℕ → Type 0
EventOf old (Body body) (Replies client reply) event = HasEvent old body reply event
EventOf old (Body body) (Leaves client why) event = event ≡ []
EventOf old (Ends why) told event = event ≡ []

-- the same for the theory of groups
pub record IsSharedTurn (asked : Exchange ClientReply) (old new : Shared) : Type 0 where
  pub client : ℕ
  pub brought : Brought
  pub body_is : asked.body ≡ tagged_body client brought
  pub turn : SharedTurnOf client brought asked.reply old new
  pub made : EventOf old.state brought asked.reply asked.event
  pub replays : Replays asked.event (turns.held_of old.state) (turns.held_of new.state)

-- The requests of many clients as a state machine of the theory of groups. (This project's choice.)

-- ---- a lock that is taken back is no part of what images hold

abbrev pub KeepsBank : State → State → Type 0
KeepsBank old new = (new.bank ≡ old.bank) × HoldsSame old new

one_back : (state : State) (name : CellName) → KeepsBank state (after_locks state (Some (Unlock name)))
one_back state name = by (relocked (Unlock name) state.table) (λ table is. unlock_stays name state.table table is)
  where
    by : (due : Result TableValue TableFault)
        → ((table : TableValue) → due ≡ Ok table → unlocked_table table ≡ unlocked_table state.table)
        → KeepsBank state (with_table state due)
    by (Ok table) same = (refl, record { table = same table refl; library = refl })
    by (Err fault) same = (refl, record { table = refl; library = refl })

pub all_back : (names : List CellName) (state : State) → KeepsBank state (taken_back names state)
all_back [] state = (refl, record { table = refl; library = refl })
all_back (name ∷ names) state =
    let first = one_back state name in
    let rest = all_back names (after_locks state (Some (Unlock name))) in
    (rest.0 ∙ first.0, record { table = rest.1.table ∙ first.1.table; library = rest.1.library ∙ first.1.library })

pub end_keeps : (client : ℕ) (old : Shared) → KeepsBank old.state (behind_end client old).state
end_keeps client old = all_back (cells_of client old.locks) old.state

-- ---- the laws of turns

abbrev shared_bank : Shared → ℕ
shared_bank one = one.state.bank

abbrev shared_text : Shared → List ℕ
shared_text one = one_client.text_of_library one.state

abbrev held_by : Shared → TableValue
held_by one = held_of one.state

abbrev is_alone : List ℕ → Bool
is_alone body = is_apart (brought_by body)

module _ (client : ℕ) (told : ClientReply) (old new : Shared) where
  pub turn_sized : (brought : Brought) → SharedTurnOf client brought told old new → shared_bank new ≡ shared_bank old
  turn_sized (Body body) one = by one.turn
    where
      by : TurnsFor client body one.reply old new → shared_bank new ≡ shared_bank old
      by (inl turn) = turn_bank old.state new.state body one.reply turn.turn
      by (inr refused) = ap shared_bank refused.same
  turn_sized (Ends why) one = ap shared_bank one.behind ∙ (end_keeps client old).0

  pub turn_stays : (brought : Brought) → SharedTurnOf client brought told old new → is_alone
      (tagged_body client brought) ≡ false
      → shared_text new ≡ shared_text old
  turn_stays (Body body) one plain = by one.turn
    where
      by : TurnsFor client body one.reply old new → shared_text new ≡ shared_text old
      by (inl turn) = ap canonical (plain_library old.state new.state body one.reply turn.turn plain)
      by (inr refused) = ap shared_text refused.same
  turn_stays (Ends why) one plain = ap shared_text one.behind ∙ ap canonical (end_keeps client old).1.library

  pub turn_tells : (brought : Brought) → SharedTurnOf client brought told old new
      → aborted_client_reply told ≡ fault_client_reply (tagged_body client brought)
  turn_tells (Body body) one = ap aborted_client_reply one.told_is ∙ ap (λ (r : ReplyValue). Replies client r)
      (by one.turn)
    where
      by : TurnsFor client body one.reply old new → one_client.aborted_reply one.reply ≡ one_client.fault_reply body
      by (inl turn) =
          ap (λ (tag : ℕ). refusal tag stg_e_writefault None) (turn_tag old.state new.state body one.reply turn.turn)
      by (inr refused) = ap one_client.aborted_reply refused.told
  turn_tells (Ends Closed) one = ap aborted_client_reply one.told_is
  turn_tells (Ends Cut) one = ap aborted_client_reply one.told_is
  turn_tells (Ends TooLong) one = ap aborted_client_reply one.told_is
  turn_tells (Ends ReadFault) one = ap aborted_client_reply one.told_is
  turn_tells (Ends WriteFault) one = ap aborted_client_reply one.told_is
  turn_tells (Ends (BadHex line)) one = ap aborted_client_reply one.told_is

  pub turn_leaves : (brought : Brought) → SharedTurnOf client brought told old new → is_client_done told ≡ false → new
      ≡ old
  turn_leaves (Body body) one is = by one.turn
    where
      undone : turns.is_done one.reply ≡ false
      undone = ap is_client_done (sym one.told_is) ∙ is

      by : TurnsFor client body one.reply old new → new ≡ old
      by (inl turn) =
          ap (λ (s : State). shared s new.locks)
          (quiet_turn old.state new.state body one.reply turn.turn (not_done one.reply undone))
          ∙ ap (λ (l : List ClientLock). shared old.state l) (turn.owners.undone undone)
      by (inr refused) = refused.same
  turn_leaves (Ends why) one is = absurd (true≢false (ap is_client_done (sym one.told_is) ∙ is))

-- locks end with a session
abbrev pub opened_shared : Shared → Shared
opened_shared one = shared (one_client.opened one.state) []

abbrev pub shared_machine : StateMachine Shared ClientReply
shared_machine = record {
  bank = shared_bank;
  text = shared_text;
  held = held_by;
  barrier = is_alone;
  Turn = IsSharedTurn;
  faulted = fault_client_reply;
  failed = failed_client_reply;
  aborted = aborted_client_reply;
  is_done = is_client_done;
  opened = opened_shared;
  reopens = λ one. (unlocked_twice one.state.table, refl, refl);
  sized = λ asked old new one. turn_sized one.client asked.reply old new one.brought one.turn;
  stays = λ asked old new one plain.
      turn_stays one.client asked.reply old new one.brought one.turn (ap is_alone (sym one.body_is) ∙ plain);
  replays = λ asked old new one. one.replays;
  tells = λ asked old new one.
      turn_tells one.client asked.reply old new one.brought one.turn ∙ ap fault_client_reply (sym one.body_is);
  leaves = λ asked old new one is. turn_leaves one.client asked.reply old new one.brought one.turn is;
}

-- The replies to many clients from one *now* to the next. (This project's choice.)

-- the requests of all clients in their order, and the replies in the same order
pub record Stretch : Type 0 where
  pub bodies : List (List ℕ)
  pub told : List ClientReply

-- After a fault of the device all get that reply, and nothing is done.
pub record IsLateFor {D : Type 0} {g : Ghosts D} (old new : Store D g) (before after : Shared) (bodies : List (List ℕ))
    (told : List ClientReply) : Type 0 where
  pub told_is : told ≡ map failed_client_reply bodies
  pub state : after ≡ before
  pub disk : new.disk ≡ old.disk
  pub stopped : new.stopped ≡ true

-- a stretch is a call that was served, in groups of a size
pub record ServesStretch {D : Type 0} {g : Ghosts D} (size : ℕ) (old new : Store D g) (before : Shared)
    (stretch : Stretch)
    (after : Shared) : Type 0 where
  pub served : old.stopped ≡ false → IsServed shared_machine size old new before after stretch.bodies stretch.told
  pub late : old.stopped ≡ true → IsLateFor old new before after stretch.bodies stretch.told

unfoldable pub all_told : List (List (ℕ × List ℕ)) → List (ℕ × List ℕ)
all_told [] = []
all_told (told ∷ tolds) = told ++ all_told tolds
