-- Sessions of a server of many clients: in memory, and over a store up to a crash. (This project's choice.)
use Rattle.std.specs.Prelude.{◌≡◌, ◌≤◌, ℕ, Bool, false, List, [], ◌++◌, length, map}
use Rattle.oa_disk.specs.declared.disk.Disk.{Ghosts}
use Rattle.oa_group_commit.specs.promise.Groups.{MayBeLeft}
use Rattle.oa_store.specs.declared.store.Store.{Store}
use Rattle.oa_stream.specs.promise.Sink.{Output}
use Rattle.oa_stream.specs.promise.Source.{Input}
use Rattle.oa_server.specs.promise.SharedSessions.{all_frames, IsSharedSession, asked_written}
use Rattle.oa_server.specs.promise.SharedMachine.{shared_machine, ClientReply, Shared, shared, all_told}
use Rattle.oa_server.specs.promise.Storages.{OverStore, disk_of}
use Rattle.oa_server.specs.declared.engine.ServerState.{ServerState}
use Rattle.oa_server.specs.declared.storage.Storage.TheVariants.{Disk, Memory}
use Rattle.oa_mux.specs.promise.Marks.{Tagged}
use Rattle.oa_mux.specs.promise.Readers.{Brought}
use Rattle.oa_mux.specs.promise.Talking.{AllTurned}
use Rattle.oa_mux.specs.declared.session_end.SessionEnd.{SessionEnd}
use Rattle.oa_history.specs.promise.Framed.{turns_asked, turns_told}
use Rattle.oa_history.specs.promise.CrashHistories.{SessionStart}
use Rattle.oa_linearizable.specs.Clients.{ClientIsServed}
use Rattle.oa_linearizable.specs.promise.Crashes.{Era, RunsUntilCrash}
use Rattle.oa_linearizable.specs.promise.Histories.{ComesInOrder, History, IsLegal, IsLinearizedBy, Operation}
use Rattle.oa_linearizable.specs.promise.Tables.{inputs_in, result_for, the_table}

-- ---- in memory

-- All requests up to some turn, in memory: each history of them is linearizable, by one order of the operations, and
-- each client is served by that order.
pub record MemoryIsLinearizable (before : Shared) (asks : List (Tagged Brought)) (frames : List (ℕ × List ℕ))
    (after : Shared) : Type 0 where
  pub replies : List ClientReply
  pub frames_are : frames ≡ all_frames replies
  pub order : List (Operation Brought ClientReply)
  pub legal : IsLegal (the_table false) before order after
  pub linearized : (waiting : List (Tagged Brought)) (history : History Brought ClientReply)
      → ComesInOrder history (inputs_in (asks ++ waiting)) (map result_for replies) → IsLinearizedBy history order
  pub each_client : (client : ℕ) → ClientIsServed client asks frames order

abbrev pub EachRunInMemoryIsLinearizable : {D : Type 0} → Ghosts D → Type 0
EachRunInMemoryIsLinearizable {D} g =
    (disk : D) (old new : ServerState D g) (asks : List (Tagged Brought)) (tolds : List (List (ℕ × List ℕ)))
    → old.storage ≡ Memory disk → AllTurned asked_written old asks tolds new
    → MemoryIsLinearizable (shared old.host old.desk.owners) asks (all_told tolds)
    (shared new.host new.desk.owners)

-- ---- over a store

-- A session over a store, divided after any of its turns: the requests up to then and those still to come, the frames
-- that were sent by then, and the state. A crash may come within the next turn, if there is one.
pub record CutSession {D : Type 0} {g : Ghosts D} (first : ServerState D g) (served next : List (Tagged Brought))
    : Type 0 where
  pub tolds : List (List (ℕ × List ℕ))
  pub mid : ServerState D g
  pub run : AllTurned asked_written first served tolds mid
  pub unheard : List (List (ℕ × List ℕ))
  pub last : ServerState D g
  pub turn : AllTurned asked_written mid next unheard last

-- If a session of `serve_shared` crashes over a store, at any point, it is an era: each of its turns may be the last
-- one.
abbrev pub SessionsRunUntilCrash : {D : Type 0} → Ghosts D → Type 0
SessionsRunUntilCrash {D} g =
    (input input' : Input) (out out' : Output) (size : ℕ) (old new : ServerState D g) (why : SessionEnd)
    (session : IsSharedSession input input' out out' size old new why) (start : D) (store : Store D g)
    (served next rest : List (Tagged Brought))
    → old.storage ≡ Disk store → SessionStart shared_machine start store (shared old.host [])
    → turns_asked session.serves ≡ served ++ (next ++ rest) → length next ≤ 1
    → (cut : CutSession session.begun served next)
    × ((others : List (List (ℕ × List ℕ))) × (turns_told session.serves ≡ cut.tolds ++ (cut.unheard ++ others)))
    × ((has_failed : Bool) (moment : ℕ) (left : List ℕ) (others : List (Tagged Brought))
    → (has_failed ≡ false → OverStore cut.mid.storage (λ store. store.stopped ≡ false))
    → g.moment (disk_of cut.mid.storage) ≤ moment → MayBeLeft g (disk_of cut.last.storage) moment left
    → RunsUntilCrash g (shared old.host [])
    (record {
      start = start;
      has_failed = has_failed;
      served = served;
      waiting = next ++ others;
      frames = all_told cut.tolds;
      left = left;
    }))

-- ---- each client

-- One order of the operations of all clients is legal, and each client is served by it: in memory, and over a store
-- whatever crash comes.
abbrev pub EachIsServedInMemory : {D : Type 0} → Ghosts D → Type 0
EachIsServedInMemory {D} g =
    (disk : D) (old new : ServerState D g) (asks : List (Tagged Brought)) (tolds : List (List (ℕ × List ℕ)))
    → old.storage ≡ Memory disk → AllTurned asked_written old asks tolds new
    → (order : List (Operation Brought ClientReply))
    × IsLegal (the_table false) (shared old.host old.desk.owners) order (shared new.host new.desk.owners)
    × ((client : ℕ) → ClientIsServed client asks (all_told tolds) order)

abbrev pub EachIsServedOverStore : {D : Type 0} → Ghosts D → Type 0
EachIsServedOverStore {D} g =
    (before : Shared) (era : Era D) → RunsUntilCrash g before era
    → (order : List (Operation Brought ClientReply)) × (after : Shared)
    × IsLegal (the_table era.has_failed) before order after
    × ((client : ℕ) → ClientIsServed client (era.served ++ era.waiting) era.frames order)
