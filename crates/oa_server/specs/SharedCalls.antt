-- A session of many clients over a store, as calls of a session over that store. (This project's choice.)
use Rattle.std.specs.Prelude.{◌≡◌, ◌⊎◌, ◌≤◌, ℕ, false, List, [], ◌∷◌, ◌++◌, length}
use Rattle.oa_disk.specs.declared.disk.Disk.{Ghosts}
use Rattle.oa_group_commit.specs.promise.Groups.{AnsweredCall, IsSessionOn, OpenSession}
use Rattle.oa_group_commit.specs.Sessions.{answered_by}
use Rattle.oa_record.specs.promise.Replacement.{is_replacement}
use Rattle.oa_store.specs.declared.store.Store.{Store}
use Rattle.oa_stream.specs.promise.Sink.{Breaks, Output, Writes}
use Rattle.oa_stream.specs.promise.Source.{Input}
use Rattle.oa_server.specs.promise.SharedMachine.{shared_machine, ClientReply, Shared, all_released, shared, Stretch}
use Rattle.oa_server.specs.promise.SharedMachine.{all_told}
use Rattle.oa_server.specs.promise.SharedSessions.{IsSharedSession}
use Rattle.oa_server.specs.Stretches.{AnswersStretches, ServesStretches}
use Rattle.oa_server.specs.declared.engine.ServerState.{ServerState}
use Rattle.oa_server.specs.declared.storage.Storage.TheVariants.{Disk}
use Rattle.oa_mux.specs.promise.Marks.{Flush, Tagged}
use Rattle.oa_mux.specs.promise.Outgoing.{spelled_told}
use Rattle.oa_mux.specs.promise.Readers.{Brought, ClientState}
use Rattle.oa_mux.specs.promise.Talking.{ends_at, ends_in, parted}
use Rattle.oa_mux.specs.declared.session_end.SessionEnd.{SessionEnd}
use Rattle.oa_mux.specs.declared.session_end.SessionEnd.TheVariants.{WriteFault}

-- The ends at the end of a session: those of the clients that are present then; or the first of them, if the writer
-- has failed.
abbrev pub AreLastEnds : SessionEnd → List (ℕ × ClientState) → List (Tagged Brought) → Type 0
AreLastEnds why clients ends = (ends ≡ ends_at why clients)
    ⊎ (why ≡ WriteFault) × (others : List (Tagged Brought)) × (ends ++ others ≡ ends_in clients)

-- A whole session: the requests, the ends of these clients, and a last *now* were answered by calls that were served,
-- one for each *now*. The frames of their replies were written. If the writer had failed, those of the last turn may
-- be lost. After that all locks are released.
pub record IsCallsOf {D : Type 0} {g : Ghosts D} (asked : List (Tagged Brought)) (clients : List (ℕ × ClientState))
    (why : SessionEnd)
    (out out' : Output) (size : ℕ) (old new : Store D g)
    (before after : Shared) : Type 0 where
  pub ends : List (Tagged Brought)
  pub ends_are : AreLastEnds why clients ends
  pub heard : List (List (ℕ × List ℕ))
  pub unheard : List (List (ℕ × List ℕ))
  pub few : length unheard ≤ 1
  pub last : Shared
  pub answers : AnswersStretches size old new before (parted is_replacement asked ++ (ends ++ Flush ∷ []))
      (all_told (heard ++ unheard)) last
  pub written : (Writes out out' (spelled_told heard) × (unheard ≡ [])) ⊎ Breaks out out' (spelled_told heard)
  pub behind : after ≡ all_released last

-- So is each session of many clients over a store.
abbrev pub SessionsAreCalls : {D : Type 0} → Ghosts D → Type 0
SessionsAreCalls {D} g =
    (input input' : Input) (out out' : Output) (size : ℕ) (old new : ServerState D g) (start : Store D g)
    (why : SessionEnd)
    → old.storage ≡ Disk start → (session : IsSharedSession input input' out out' size old new why)
    → (end : Store D g) × (new.storage ≡ Disk end)
    × IsCallsOf session.serves.asked session.serves.streams.clients why out out' size start end (shared old.host [])
    (shared new.host new.desk.owners)

abbrev pub stretch_calls : ℕ → List Stretch → List (AnsweredCall ClientReply)
stretch_calls size [] = []
stretch_calls size (stretch ∷ stretches) =
    record { size = size; bodies = stretch.bodies; replies = stretch.told } ∷ stretch_calls size stretches

-- These calls belong to a session over the store.
abbrev pub StretchesGoOn : {D : Type 0} → Ghosts D → Type 0
StretchesGoOn {D} g =
    (start : D) (mid new : Store D g) (first last after : Shared) (calls : List (AnsweredCall ClientReply)) (size : ℕ)
    (stretches : List Stretch) → OpenSession shared_machine start mid first last calls
    → ServesStretches size mid new last stretches after
    → new.stopped ≡ false → OpenSession shared_machine start new first after (calls ++ stretch_calls size stretches)

-- They are calls of it also if the device fails in one of them: from its start on, everything answered before them
-- counts.
abbrev pub StretchesCount : {D : Type 0} → Ghosts D → Type 0
StretchesCount {D} g =
    (start : D) (mid new : Store D g) (first last after : Shared) (calls : List (AnsweredCall ClientReply)) (size : ℕ)
    (stretches : List Stretch) → (was : OpenSession shared_machine start mid first last calls) → mid.stopped ≡ false
    → ServesStretches size mid new last stretches after
    → (session : IsSessionOn shared_machine g start new.disk first (calls ++ stretch_calls size stretches) after)
    × (session.stopped ≡ new.stopped)
    × ((m : ℕ) → g.moment mid.disk ≤ m → was.session.count ≤ answered_by m session.moments)
