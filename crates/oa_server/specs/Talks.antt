-- Definitions for contracts and proofs, beside promise/Storages.
use Rattle.std.specs.Prelude.{◌≡◌, ℕ, List, [], ◌∷◌, map, ⊤}
use Rattle.oa_disk.specs.declared.disk.Disk.{Ghosts}
use Rattle.oa_frame.specs.promise.Framings.{Frames}
use Rattle.oa_frame.specs.promise.Sessions.{Session}
use Rattle.oa_frame.specs.declared.session.Served.{Served}
use Rattle.oa_group_commit.specs.promise.Groups.{IsAdmitted, IsEnded, AnsweredCall}
use Rattle.oa_record.specs.promise.Replacement.{is_replacement}
use Rattle.oa_record.specs.promise.Replies.{ReplyValue, reply_record}
use Rattle.oa_stream.specs.promise.Sink.{Output}
use Rattle.oa_stream.specs.promise.Source.{Input}
use Rattle.oa_server.specs.declared.engine.ServerState.{ServerState}
use Rattle.oa_server.specs.declared.open_group.OpenGroup.{OpenGroup}
use Rattle.oa_server.specs.declared.storage.Storage.{Storage}
use Rattle.oa_server.specs.declared.storage.Storage.TheVariants.{Disk, Memory}
use Rattle.oa_server.specs.OpenGroups.{CanTake, grouping_of}
use Rattle.oa_server.specs.promise.ServerMachine.{server_machine, last_written}
use Rattle.oa_server.specs.Serving.{none_held, turn_written}
use Rattle.oa_decision.specs.promise.States.{State}
use Rattle.oa_server.specs.promise.Storages.{Part, ServesSession}

-- one more request fits into the open group
abbrev pub OpenGroupIsReady : {D : Type 0} {g : Ghosts D} → Storage D g → OpenGroup → Type 0
OpenGroupIsReady (Memory disk) open_group = ⊤
OpenGroupIsReady (Disk store) open_group = CanTake store open_group

-- One body is executed in the open group, and these replies are sent.
abbrev pub TakenIn : {D : Type 0} {g : Ghosts D} → Storage D g → State → OpenGroup → List ℕ → List ReplyValue
    → Storage D g → State → OpenGroup → Type 0
TakenIn (Disk old) before open_group body told (Disk new) after open_group' =
    IsAdmitted server_machine open_group.size body told (grouping_of old before open_group)
    (grouping_of new after open_group')
TakenIn (Disk old) before open_group body told (Memory new) after open_group' = ⊥
TakenIn (Memory old) before open_group body told new after open_group' = ⊥

abbrev pub EndedIn : {D : Type 0} {g : Ghosts D} → Storage D g → State → OpenGroup → List ReplyValue → Storage D g
    → State → OpenGroup → Type 0
EndedIn (Disk old) before open_group told (Disk new) after open_group' =
    IsEnded server_machine told (grouping_of old before open_group) (grouping_of new after open_group')
EndedIn (Disk old) before open_group told (Memory new) after open_group' = ⊥
EndedIn (Memory old) before open_group told new after open_group' = ⊥

-- the same, with the bytes of the replies without lengths
pub record IsTakenOver {D : Type 0} {g : Ghosts D} (old : Storage D g) (before : State) (open_group : OpenGroup)
    (body : List ℕ)
    (replies : List (List ℕ)) (new : Storage D g) (after : State) (open_group' : OpenGroup) : Type 0 where
  pub told : List ReplyValue
  pub are : replies ≡ map reply_record told
  pub size : open_group'.size ≡ open_group.size
  pub ready : OpenGroupIsReady new open_group'
  pub taken : TakenIn old before open_group body told new after open_group'

pub record IsEndedOver {D : Type 0} {g : Ghosts D} (old : Storage D g) (before : State) (open_group : OpenGroup)
    (replies : List (List ℕ)) (new : Storage D g) (after : State) (open_group' : OpenGroup) : Type 0 where
  pub told : List ReplyValue
  pub are : replies ≡ map reply_record told
  pub size : open_group'.size ≡ open_group.size
  pub none : open_group'.replies.items ≡ []
  pub ended : EndedIn old before open_group told new after open_group'

-- In memory every body has one reply, sent at that body. Over a store it is executed in the open group.
abbrev pub Taken : {D : Type 0} {g : Ghosts D} → Storage D g → State → OpenGroup → List ℕ → List (List ℕ) → Storage D g
    → State → OpenGroup → Type 0
Taken (Memory old) before open_group body replies new after open_group' =
    (new ≡ Memory old) × turn_written before body replies after
Taken (Disk old) before open_group body replies new after open_group' =
    IsTakenOver (Disk old) before open_group body replies new after open_group'

-- So none is held when the input ends. Over a store the open group ends, and its replies are sent.
abbrev pub InputEnds : {D : Type 0} {g : Ghosts D} → Storage D g → State → OpenGroup → List (List ℕ) → Storage D g
    → State → OpenGroup → Type 0
InputEnds (Memory old) before open_group replies new after open_group' =
    (new ≡ Memory old) × none_held before replies after
InputEnds (Disk old) before open_group replies new after open_group' =
    IsEndedOver (Disk old) before open_group replies new after open_group'

-- the invariant of a server between two bodies
abbrev pub TakesBodies : {D : Type 0} {g : Ghosts D} → ServerState D g → Type 0
TakesBodies engine = OpenGroupIsReady engine.storage engine.desk.open_group

abbrev pub taken_written : {D : Type 0} {g : Ghosts D} → ServerState D g → List ℕ → List (List ℕ) → ServerState D g
    → Type 0
taken_written old body replies new =
    Taken old.storage old.host old.desk.open_group body replies new.storage new.host new.desk.open_group

abbrev pub ended_written : {D : Type 0} {g : Ghosts D} → ServerState D g → List (List ℕ) → ServerState D g → Type 0
ended_written old replies new =
    InputEnds old.storage old.host old.desk.open_group replies new.storage new.host new.desk.open_group

-- the calls that the parts are
abbrev pub calls_of : ℕ → List Part → List (AnsweredCall ReplyValue)
calls_of size [] = []
calls_of size (part ∷ parts) = record { size = size; bodies = part.bodies; replies = part.told } ∷ calls_of size parts

-- the same of a server
abbrev pub IsStoreSession : {D : Type 0} {g : Ghosts D} → Frames → Input → Input → Output → Output → ℕ → ServerState D g
    → ServerState D g → Served → Type 0
IsStoreSession f input input' out out' size old new served =
    ServesSession f last_written input input' out out' size old.storage new.storage old.host new.host served

-- in memory each reply is sent at its body
abbrev pub HasTalkedInMemory : Frames → Input → Input → Output → Output → State → State → Served → Type 0
HasTalkedInMemory f input input' out out' old new served =
    Session f is_replacement turn_written none_held last_written input input' out out' old new served
