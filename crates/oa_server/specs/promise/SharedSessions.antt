-- A session of many clients in one stream.
use Rattle.std.specs.Prelude.{ℕ, List, [], ◌∷◌, ◌++◌, map, Option, Some, None, ◌≡◌}
use Rattle.oa_disk.specs.declared.disk.Disk.{Ghosts}
use Rattle.oa_frame.specs.promise.Sessions.{last_reply}
use Rattle.oa_frame.specs.declared.ends.End.{End}
use Rattle.oa_group_commit.specs.promise.Groups.{GroupState, IsAdmitted, IsEnded}
use Rattle.oa_turn.specs.promise.ClientLocks.{ClientLock}
use Rattle.oa_record.specs.promise.Replies.{ReplyValue, reply_record}
use Rattle.oa_server.specs.promise.ServerMachine.{last_written}
use Rattle.oa_server.specs.promise.SharedMachine.{ClientReply, Leaves, Replies, Shared, shared, shared_machine}
use Rattle.oa_server.specs.promise.SharedMachine.{SharedTurnOf, tagged_body, all_released}
use Rattle.oa_server.specs.declared.desk.ReplyTo.{ReplyTo}
use Rattle.oa_server.specs.declared.desk.SharedGroup.{SharedGroup}
use Rattle.oa_store.specs.declared.store.Store.{Store}
use Rattle.oa_decision.specs.promise.States.{State}
use Rattle.oa_server.specs.declared.engine.ServerState.{ServerState}
use Rattle.oa_server.specs.declared.storage.Storage.{Storage}
use Rattle.oa_server.specs.declared.storage.Storage.TheVariants.{Disk, Memory}
use Rattle.oa_mux.specs.promise.Marks.{Tagged, Of, Flush}
use Rattle.oa_mux.specs.promise.Readers.{Brought}
use Rattle.oa_record.specs.promise.Replacement.{is_replacement}
use Rattle.oa_stream.specs.promise.Sink.{Output}
use Rattle.oa_stream.specs.promise.Source.{Input}
use Rattle.oa_mux.specs.promise.Shared.{starting}
use Rattle.oa_mux.specs.promise.Talking.{ServesClients}
use Rattle.oa_mux.specs.declared.session_end.SessionEnd.{SessionEnd}

-- The open group of many clients: its replies, each with its client. (This project's choice.)

-- what one client receives: the reply, or its end
abbrev pub told_with : ℕ → Option End → ReplyValue → ClientReply
told_with client None reply = Replies client reply
told_with client (Some why) reply = Leaves client why

-- the replies in the order of the requests
abbrev pub told_to : List ReplyTo → List ReplyValue → List ClientReply
told_to [] replies = []
told_to (asker ∷ askers) [] = []
told_to (asker ∷ askers) (reply ∷ replies) = told_with asker.client asker.why reply ∷ told_to askers replies

-- the frames that a client receives: a reply; at its end bad stub data, if it has that reply, and then the frame that
-- ends its replies
abbrev pub frames_with : ℕ → List (List ℕ) → List (ℕ × List ℕ)
frames_with client replies = map (λ bytes. (client, bytes)) replies

abbrev pub frames_of : ClientReply → List (ℕ × List ℕ)
frames_of (Replies client reply) = (client, reply_record reply) ∷ []
frames_of (Leaves client why) = frames_with client (last_reply last_written why ++ [] ∷ [])

unfoldable pub all_frames : List ClientReply → List (ℕ × List ℕ)
all_frames [] = []
all_frames (told ∷ tolds) = frames_of told ++ all_frames tolds

-- the store, the state, the held replies, and the events that are not committed
abbrev pub shared_group_state : {D : Type 0} {g : Ghosts D} → Store D g → State → List ClientLock → List ReplyTo
    → List ReplyValue → List ℕ → GroupState Shared ClientReply D g
shared_group_state store state locks askers pending events =
    record { store = store; state = shared state locks; pending = told_to askers pending; events = events }

abbrev pub shared_group_state_of : {D : Type 0} {g : Ghosts D} → Store D g → State → SharedGroup
    → GroupState Shared ClientReply D g
shared_group_state_of store state desk =
    shared_group_state store state desk.owners desk.askers.items desk.open_group.replies.items desk.open_group.batch

-- Sessions of many clients, in memory and over a store. (This project's choice.)

-- a client's body or its end is executed; or a *now* ends the open group
abbrev pub TakenOver : {D : Type 0} {g : Ghosts D} → Tagged Brought → ℕ → List ClientReply
    → GroupState Shared ClientReply D g → GroupState Shared ClientReply D g → Type 0
TakenOver (Of client brought) size told old new = IsAdmitted shared_machine size
    (tagged_body client brought) told old new
TakenOver Flush size told old new = IsEnded shared_machine told old new × (new.pending ≡ []) × (new.events ≡ [])

-- the same, with the frames that are sent
pub record TakesOver {D : Type 0} {g : Ghosts D} (old : Store D g) (before : State) (desk : SharedGroup)
    (ask : Tagged Brought)
    (frames : List (ℕ × List ℕ)) (new : Store D g) (after : State) (desk' : SharedGroup) : Type 0 where
  pub told : List ClientReply
  pub are : frames ≡ all_frames told
  pub size : desk'.open_group.size ≡ desk.open_group.size
  pub taken : TakenOver ask desk.open_group.size told (shared_group_state_of old before desk)
      (shared_group_state_of new after desk')

-- In memory each is answered at once, and nothing is held.
abbrev pub AnswersInMemory : Shared → Tagged Brought → List (ℕ × List ℕ) → Shared → Type 0
AnswersInMemory before (Of client brought) frames after =
    (told : ClientReply) × (frames ≡ frames_of told) × SharedTurnOf client brought told before after
AnswersInMemory before Flush frames after = (frames ≡ []) × (after ≡ before)

abbrev pub AsksIn : {D : Type 0} {g : Ghosts D} → Storage D g → State → SharedGroup → Tagged Brought → List (ℕ × List ℕ)
    → Storage D g → State → SharedGroup → Type 0
AsksIn (Memory old) before desk ask frames new after desk' =
    (new ≡ Memory old) × AnswersInMemory (shared before desk.owners) ask frames (shared after desk'.owners)
AsksIn (Disk old) before desk ask frames (Disk new) after desk' = TakesOver old before desk ask frames new after desk'
AsksIn (Disk old) before desk ask frames (Memory new) after desk' = ⊥

-- one turn, with the frames that are sent then
abbrev pub asked_written : {D : Type 0} {g : Ghosts D} → ServerState D g → Tagged Brought → List (ℕ × List ℕ)
    → ServerState D g → Type 0
asked_written old ask frames new = AsksIn old.storage old.host old.desk ask frames new.storage new.host new.desk

-- Sessions of many clients over streams. (This project's choice.)

-- A session of many clients, from a state with an empty open group and without owners of locks: everything that was
-- read, answered and written. At the end, the locks of clients whose streams had not ended are released.
pub record IsSharedSession {D : Type 0} {g : Ghosts D} (input input' : Input) (out out' : Output) (size : ℕ)
    (old new : ServerState D g)
    (why : SessionEnd) : Type 0 where
  pub begun : ServerState D g
  pub storage : begun.storage ≡ old.storage
  pub host : begun.host ≡ old.host
  pub owners : begun.desk.owners ≡ []
  pub size_is : begun.desk.open_group.size ≡ size
  pub no_replies : begun.desk.open_group.replies.items ≡ []
  pub no_events : begun.desk.open_group.batch ≡ []
  pub left : ServerState D g
  pub serves : ServesClients is_replacement asked_written starting input input' out out' begun left why
  pub kept : new.storage ≡ left.storage
  pub behind : shared new.host new.desk.owners ≡ all_released (shared left.host left.desk.owners)
