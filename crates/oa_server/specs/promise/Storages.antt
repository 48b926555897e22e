-- A server with its storage, and a session of one client with it.
use Rattle.std.specs.Prelude.{◌≡◌, ℕ, false, true, List, ◌⊎◌, ◌<◌, ◌≤◌, [], ◌∷◌, ◌++◌, length, map}
use Rattle.oa_disk.specs.declared.disk.Disk.{Ghosts}
use Rattle.oa_group_commit.specs.promise.Groups.{IsServed, IsWhole, HasNoBarrier, is_full, Trace, Exchange, body_of}
use Rattle.oa_group_commit.specs.promise.Groups.{reply_of}
use Rattle.oa_store.specs.declared.store.Store.{Store}
use Rattle.oa_record.specs.promise.Replies.{ReplyValue, reply_record}
use Rattle.oa_server.specs.declared.storage.Storage.{Storage}
use Rattle.oa_server.specs.declared.storage.Storage.TheVariants.{Disk, Memory}
use Rattle.oa_server.specs.promise.ServerMachine.{AnswersAfterFault, server_machine}
use Rattle.oa_decision.specs.promise.States.{State}
use Rattle.oa_turn.specs.promise.Turns.{Run}
use Rattle.oa_frame.specs.promise.Framings.{Frames}
use Rattle.oa_frame.specs.promise.Sessions.{Session, concat_replies}
use Rattle.oa_frame.specs.declared.session.Served.{Served}
use Rattle.oa_record.specs.promise.Replacement.{is_replacement}
use Rattle.oa_stream.specs.promise.Sink.{Output}
use Rattle.oa_stream.specs.promise.Source.{Input}

-- The storage of a server's table, and the replies over it. (This project's choice.)

-- its disk
abbrev pub disk_of : {D : Type 0} {g : Ghosts D} → Storage D g → D
disk_of (Memory disk) = disk
disk_of (Disk store) = store.disk

-- Bodies are answered in groups of a size: by a run in memory; over a store by a run with its points in time, up to a
-- fault of the device; after a fault all get that reply.
pub record ServesStore {D : Type 0} {g : Ghosts D} (size : ℕ) (old new : Store D g) (before : State)
    (bodies : List (List ℕ))
    (replies : List ReplyValue) (after : State) : Type 0 where
  pub served : old.stopped ≡ false → IsServed server_machine size old new before after bodies replies
  pub late : old.stopped ≡ true → AnswersAfterFault old new before after bodies replies

abbrev pub Serves : {D : Type 0} {g : Ghosts D} → ℕ → Storage D g → Storage D g → State → List (List ℕ)
    → List ReplyValue → State → Type 0
Serves size (Memory old) (Memory new) before bodies replies after = (new ≡ old) × Run before bodies replies after
Serves size (Disk old) (Disk new) before bodies replies after = ServesStore size old new before bodies replies after
Serves size (Memory old) (Disk new) before bodies replies after = ⊥
Serves size (Disk old) (Memory new) before bodies replies after = ⊥

-- a property of its store, if the server has one
abbrev pub OverStore : {D : Type 0} {g : Ghosts D} → Storage D g → (Store D g → Type 0) → Type 0
OverStore (Memory disk) P = ⊥
OverStore (Disk store) P = P store

-- Sessions of a server over streams, in memory and over a store. (This project's choice.)

-- what was read and written, for any server
abbrev pub any_turn : Unit {0} → List ℕ → List (List ℕ) → Unit {0} → Type 0
any_turn old body replies new = Unit {0}

abbrev pub any_end : Unit {0} → List (List ℕ) → Unit {0} → Type 0
any_end old replies new = Unit {0}

-- a part of a session: some bodies, and the replies that were sent at the last of them
pub record Part : Type 0 where
  pub bodies : List (List ℕ)
  pub told : List ReplyValue

-- at each body nothing
abbrev pub silent : List (List ℕ) → List (List (List ℕ))
silent bodies = map (λ body. []) bodies

-- at the last body all, and nothing before
abbrev pub at_last : List (List ℕ) → List (List ℕ) → List (List (List ℕ))
at_last [] replies = []
at_last (body ∷ []) replies = replies ∷ []
at_last (body ∷ (next ∷ bodies)) replies = [] ∷ at_last (next ∷ bodies) replies

abbrev pub bodies_of_parts : List Part → List (List ℕ)
bodies_of_parts [] = []
bodies_of_parts (part ∷ parts) = part.bodies ++ bodies_of_parts parts

abbrev pub handed_of : List Part → List (List (List ℕ))
handed_of [] = []
handed_of (part ∷ parts) = at_last part.bodies (map reply_record part.told) ++ handed_of parts

-- The last of these bodies ends a group: it fills the group, or the checkpoint before its event, the group's first,
-- has failed. Before it no group is whole, and none of them is a group of its own.
pub record IsWholeGroup {D : Type 0} {g : Ghosts D} (size : ℕ) (new : Store D g) (before : State)
    (bodies : List (List ℕ))
    (told : List ReplyValue) (after : State) : Type 0 where
  pub group : List (Exchange ReplyValue)
  pub bodies_are : bodies ≡ map body_of group
  pub plain : HasNoBarrier is_replacement bodies
  pub run : Trace server_machine before group after
  pub short : (front : List (Exchange ReplyValue)) (last : Exchange ReplyValue) → group ≡ front ++ last ∷ []
      → is_full size front ≡ false
  pub ends : IsWhole server_machine size before group
  pub whole : new.stopped ≡ false → (is_full size group ≡ true) × (told ≡ map reply_of group)

-- These bodies are not yet a group: another request could have followed. None of them is a group of its own.
pub record IsNoGroupYet {D : Type 0} {g : Ghosts D} (size : ℕ) (new : Store D g) (before : State)
    (bodies : List (List ℕ))
    (told : List ReplyValue) (after : State) : Type 0 where
  pub held : List (Exchange ReplyValue)
  pub bodies_are : bodies ≡ map body_of held
  pub plain : HasNoBarrier is_replacement bodies
  pub run : Trace server_machine before held after
  pub short : is_full size held ≡ false
  pub told_are : new.stopped ≡ false → told ≡ map reply_of held

-- The last of these bodies is a group of its own, and ends the group before it, whose replies are sent then, too:
-- that group was not whole, and none of its bodies is a group of its own.
pub record EndsApart (size : ℕ) (before : State) (bodies : List (List ℕ)) : Type 0 where
  pub front : List (List ℕ)
  pub last : List ℕ
  pub are : bodies ≡ front ++ last ∷ []
  pub barrier : is_replacement last ≡ true
  pub plain : HasNoBarrier is_replacement front
  pub group : List (Exchange ReplyValue)
  pub front_is : front ≡ map body_of group
  pub state : State
  pub run : Trace server_machine before group state
  pub short : is_full size group ≡ false

-- So one group over a store, or the open one and the body that ends it; in memory, and after a fault of the device, one
-- body.
abbrev pub EndsGroup : {D : Type 0} {g : Ghosts D} → ℕ → Storage D g → Storage D g → State → List (List ℕ)
    → List ReplyValue → State → Type 0
EndsGroup size (Disk old) (Disk new) before bodies told after =
    (old.stopped ≡ false → IsWholeGroup size new before bodies told after ⊎ EndsApart size before bodies)
    × (old.stopped ≡ true → length bodies ≡ 1)
EndsGroup size (Disk old) (Memory new) before bodies told after = ⊥
EndsGroup size (Memory old) new before bodies told after = length bodies ≡ 1

-- So over a store; in memory, and after a fault of the device, none is held.
abbrev pub EndsBefore : {D : Type 0} {g : Ghosts D} → ℕ → Storage D g → Storage D g → State → List (List ℕ)
    → List ReplyValue → State → Type 0
EndsBefore size (Disk old) (Disk new) before bodies told after =
    (old.stopped ≡ false → IsNoGroupYet size new before bodies told after) × (old.stopped ≡ true → bodies ≡ [])
EndsBefore size (Disk old) (Memory new) before bodies told after = ⊥
EndsBefore size (Memory old) new before bodies told after = bodies ≡ []

-- A part is a call of its own, with at most a group's number of bodies: one group, or the open group and a last body
-- that is a group of its own.
pub record IsPart {D : Type 0} {g : Ghosts D} (size : ℕ) (old new : Storage D g) (before : State) (part : Part)
    (after : State) : Type 0 where
  pub few : length part.bodies ≤ size
  pub ends : EndsGroup size old new before part.bodies part.told after
  pub serves : Serves size old new before part.bodies part.told after

-- Each part begins in the state in which the one before ended.
abbrev pub Parts : {D : Type 0} {g : Ghosts D} → ℕ → Storage D g → Storage D g → State → List Part → State → Type 0
Parts size old new before [] after = (new ≡ old) × (after ≡ before)
Parts {D} {g} size old new before (part ∷ parts) after =
    (mid : Storage D g) × (state : State) × IsPart size old mid before part state × Parts size mid new state parts after

-- The bodies of a session part by part: the replies of each part are sent at its last body, before the next body is
-- read, and are those of a call that has ended by then. The requests that the open group holds at the end are a call,
-- too, whose replies are sent then.
pub record InParts {D : Type 0} {g : Ghosts D} (size : ℕ) (old new : Storage D g) (before after : State)
    (bodies : List (List ℕ))
    (handed : List (List (List ℕ))) (held : List (List ℕ)) : Type 0 where
  pub parts : List Part
  pub open_bodies : List (List ℕ)
  pub told : List ReplyValue
  pub mid : Storage D g
  pub state : State
  pub bodies_are : bodies ≡ bodies_of_parts parts ++ open_bodies
  pub handed_are : handed ≡ handed_of parts ++ silent open_bodies
  pub held_are : held ≡ map reply_record told
  pub served : Parts size old mid before parts state
  pub few : length open_bodies < size
  pub rest : EndsBefore size mid new state open_bodies told after
  pub ends : Serves size mid new state open_bodies told after

-- A whole session: what was read and written. The replies are those of serving the bodies that were read and
-- answered, in groups of this size. If the writer failed before a body that is a group of its own, that body is not
-- one of them.
pub record ServesSession {D : Type 0} {g : Ghosts D} (f : Frames) (last : List ℕ) (input input' : Input)
    (out out' : Output)
    (size : ℕ) (old new : Storage D g) (before after : State) (served : Served) : Type 0 where
  pub io : Session f is_replacement any_turn any_end last input input' out out' tt tt served
  pub told : List ReplyValue
  pub replies_are : concat_replies io.handed ++ io.held ≡ map reply_record told
  pub serves : Serves size old new before io.bodies told after
  pub in_parts : InParts size old new before after io.bodies io.handed io.held
