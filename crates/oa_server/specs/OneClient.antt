-- A session of many clients in which only one makes requests. (This project's choice.)
use Rattle.std.specs.Prelude.{◌≡◌, ℕ, false, List, [], ◌∷◌, ◌++◌, map, Option, Some, None}
use Rattle.oa_disk.specs.declared.disk.Disk.{Ghosts}
use Rattle.oa_frame.specs.declared.ends.End.{End}
use Rattle.oa_record.specs.promise.Replies.{ReplyValue, reply_record}
use Rattle.oa_store.specs.declared.store.Store.{Store}
use Rattle.oa_server.specs.promise.SharedSessions.{frames_of, asked_written}
use Rattle.oa_server.specs.Ledgers.{HasLedger, OwnsAll}
use Rattle.oa_server.specs.promise.SharedMachine.{Leaves, Shared, shared, all_told}
use Rattle.oa_server.specs.Stretches.{AnswersStretches}
use Rattle.oa_server.specs.declared.engine.ServerState.{ServerState}
use Rattle.oa_server.specs.declared.storage.Storage.TheVariants.{Memory}
use Rattle.oa_mux.specs.promise.Marks.{Flush, Of, Tagged}
use Rattle.oa_mux.specs.promise.Readers.{Body, Brought, Ends}
use Rattle.oa_mux.specs.promise.Talking.{AllTurned}
use Rattle.oa_decision.specs.promise.States.{State}
use Rattle.oa_table.specs.Locks.{locks_at}
use Rattle.oa_table.specs.declared.name.CellName.{CellName}
use Rattle.oa_turn.specs.promise.Plans.{HoldsSame}
use Rattle.oa_turn.specs.promise.Turns.{Run}

-- these bodies of this client come, and then its end if there is one, with a *now* anywhere
abbrev pub AsksBodies : ℕ → List (Tagged Brought) → List (List ℕ) → Option End → Type 0
AsksBodies client [] [] None = Unit {0}
AsksBodies client [] [] (Some end) = ⊥
AsksBodies client [] (body ∷ bodies) left = ⊥
AsksBodies client (Flush ∷ asks) bodies left = AsksBodies client asks bodies left
AsksBodies client (Of other (Ends why) ∷ asks) [] None = ⊥
AsksBodies client (Of other (Ends why) ∷ asks) [] (Some end) =
    (other ≡ client) × (why ≡ end) × AsksBodies client asks [] None
AsksBodies client (Of other (Ends why) ∷ asks) (body ∷ bodies) left = ⊥
AsksBodies client (Of other (Body own) ∷ asks) [] left = ⊥
AsksBodies client (Of other (Body own) ∷ asks) (body ∷ bodies) left =
    (other ≡ client) × (own ≡ body) × AsksBodies client asks bodies left

-- one frame for each reply, with its bytes
abbrev pub frames_to : ℕ → List ReplyValue → List (ℕ × List ℕ)
frames_to client replies = map (λ reply. (client, reply_record reply)) replies

-- the frames that a client receives at its end, if there is one
abbrev pub end_frames : ℕ → Option End → List (ℕ × List ℕ)
end_frames client None = []
end_frames client (Some end) = frames_of (Leaves client end)

-- No array is locked, and nothing else has changed.
pub record IsUnlocked (old new : State) : Type 0 where
  pub bank : new.bank ≡ old.bank
  pub same : HoldsSame old new
  pub none : (name : CellName) → locks_at name new.table ≡ 0

-- after the client's end, if there is one
abbrev pub IsBehindEnd : Option End → State → State → Type 0
IsBehindEnd None old new = new ≡ old
IsBehindEnd (Some end) old new = IsUnlocked old new

-- The bodies are answered by a run of turns of a server of one client, and a frame is sent for each reply. Then the
-- client's end is answered, if there is one: that releases its locks.
pub record AnswersOneClient (client : ℕ) (old : State) (bodies : List (List ℕ)) (left : Option End)
    (frames : List (ℕ × List ℕ)) (new : State) : Type 0 where
  pub replies : List ReplyValue
  pub mid : State
  pub run : Run old bodies replies mid
  pub are : frames ≡ frames_to client replies ++ end_frames client left
  pub behind : IsBehindEnd left mid new

-- So in memory
abbrev pub OneClientInMemory : {D : Type 0} → Ghosts D → Type 0
OneClientInMemory {D} g =
    (client : ℕ) (disk : D) (old new : ServerState D g) (asks : List (Tagged Brought)) (bodies : List (List ℕ))
    (left : Option End) (tolds : List (List (ℕ × List ℕ)))
    → old.storage ≡ Memory disk → HasLedger (shared old.host old.desk.owners)
    → OwnsAll client (shared old.host old.desk.owners)
    → AsksBodies client asks bodies left → AllTurned asked_written old asks tolds new
    → AnswersOneClient client old.host bodies left (all_told tolds) new.host

-- and over a store, if no call of the device fails
abbrev pub OneClientOverStore : {D : Type 0} → Ghosts D → Type 0
OneClientOverStore {D} g =
    (client size : ℕ) (old new : Store D g) (before after : Shared) (asks : List (Tagged Brought))
    (bodies : List (List ℕ)) (left : Option End) (frames : List (ℕ × List ℕ))
    → new.stopped ≡ false → HasLedger before → OwnsAll client before → AsksBodies client asks bodies left
    → AnswersStretches size old new before (asks ++ Flush ∷ []) frames after
    → AnswersOneClient client before.state bodies left frames after.state
