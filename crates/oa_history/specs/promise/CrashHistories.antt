-- Crash histories: sessions and checkpoints, each of which crashes.
use Rattle.std.specs.Prelude.{ℕ, ◌+◌, ◌*◌, ◌-◌, ◌≤◌, min, List, length, ◌≡◌, false, [], ◌∷◌, map}
use Rattle.oa_disk.specs.promise.Memory.{IsTornAt, memory_image, moments_of, memory_contents}
use Rattle.oa_disk.specs.declared.memory.MemoryDisk.{MemoryDisk}
use Rattle.oa_printer.specs.promise.Canonical.{canonical}
use Rattle.oa_group_commit.specs.promise.Groups.{HoldsState, OpenSession, StateMachine}
use Rattle.oa_journal.specs.promise.Bank.{first_gate}
use Rattle.oa_journal.specs.declared.shape.BankFormat.TheVariants.{Two}
use Rattle.oa_turn.specs.promise.Events.{held_of}
use Rattle.oa_decision.specs.promise.States.{State}
use Rattle.oa_server.specs.promise.ServerMachine.{server_machine, IsOpened}
use Rattle.oa_store.specs.promise.Stores.{checkpoint_calls, IsStoreAt}
use Rattle.oa_history.specs.declared.session.Stop.{Stop}
use Rattle.oa_disk.specs.promise.Disk.{NothingPending}
use Rattle.oa_disk.specs.declared.disk.Disk.{Ghosts}
use Rattle.oa_server.specs.promise.Storages.{OverStore, Serves, disk_of}
use Rattle.oa_server.specs.declared.server.Server.{Server}
use Rattle.oa_store.specs.declared.store.Store.{Store}
use Rattle.oa_record.specs.promise.Replies.{ReplyValue}
use Rattle.oa_server.specs.promise.SharedMachine.{shared_machine, shared}
use Rattle.oa_server.specs.declared.storage.Storage.{Storage}
use Rattle.oa_history.specs.promise.Framed.{HasWrittenFrames, ServesShared}
use Rattle.oa_history.specs.promise.DurablePrefixes.{CallSequence, CompletedCall, KeepsDurablePrefix, Serving}
use Rattle.oa_history.specs.promise.DurablePrefixes.{HasWritten}
use Rattle.oa_history.specs.declared.history.CrashHistory.{CrashHistory}
use Rattle.oa_history.specs.declared.session.Answer.{Answer}
use Rattle.oa_history.specs.declared.session.Asked.{Asked}
use Rattle.oa_history.specs.declared.session.Asked.TheVariants as ask
use Rattle.oa_history.specs.declared.session.ServerCall.{ServerCall}
use Rattle.oa_history.specs.declared.session.Transcript.{Transcript}
use Rattle.oa_history.specs.declared.session.Opened.{Opened}
use Rattle.oa_history.specs.declared.session.Replies.{Replies}
use Rattle.oa_history.specs.declared.session.Replies.TheVariants as told
use Rattle.oa_history.specs.declared.session.CrashedSession.{CrashedSession as Played}
use Rattle.oa_history.specs.declared.session.Step.{Step}
use Rattle.oa_history.specs.declared.session.Step.TheVariants.{CrashedSession, Checkpoint}

-- Steps other than sessions: formatting a store, upgrading it to format 2, and a checkpoint.

-- The state that was found in one bank is in the other one, without groups, after the last call of the disk. What is
-- left is what a crash of the disk at that point in time leaves, with that tear, and it is a store of the state at
-- every such point. At most the calls of one opening and of one checkpoint were made.
pub record IsCheckpointed (found : List ℕ) (stop : Stop) (disk : MemoryDisk) (left : List ℕ)
    (state : State) : Type 0 where
  pub chosen : ℕ
  pub gate : ℕ
  pub was : IsStoreAt (Two state.bank) chosen gate (canonical state.library) (held_of state) found
  pub is : (c : List ℕ) → memory_image disk c
      → IsStoreAt (Two state.bank) (1 - chosen) (first_gate (canonical state.library) (held_of state))
      (canonical state.library) (held_of state) c
  pub torn : IsTornAt disk stop.tear (min stop.moment (moments_of disk)) left
  pub calls : moments_of disk + length (canonical state.library)
      ≤ 20 + gate + 2 * checkpoint_calls (canonical state.library) (held_of state)
  pub holds : HoldsState server_machine state left

-- A disk between two sessions, and its recovery.

-- A disk that was just made, or found after a crash: its clock is at 0, and a crash leaves what a read returns.
pub record IsFreshDisk (disk : MemoryDisk) : Type 0 where
  pub start : moments_of disk ≡ 0
  pub barrier : NothingPending memory_contents memory_image disk

-- A session of a server was begun on the disk: it serves the state, and there were no requests yet.
pub record SessionStart {S R D : Type 0} {g : Ghosts D} (t : StateMachine S R) (disk : D) (store : Store D g)
    (state : S) : Type 0 where
  pub goes_on : store.stopped ≡ false
  pub sits : OpenSession t disk store state state []

-- It was opened on that very disk: nothing was written, and at most the calls of an opening were made.
pub record IsRecovered {D : Type 0} {g : Ghosts D} (disk : D) (server : Server D g) (state : State) : Type 0 where
  pub host : server.engine.host ≡ state
  pub found : OverStore server.engine.storage (λ store. IsOpened g disk state.library store state.table)
  pub over : OverStore server.engine.storage (λ store. SessionStart server_machine disk store state)

-- Crash histories: sessions of one client or of many, and checkpoints between them, each of which crashes, and each
-- begun on what the crash before it has left.

-- ---- what was asked in a session, and answered

abbrev pub call_bodies : ServerCall → List (List ℕ)
call_bodies call = map (λ b. b.items) call.bodies.items

-- each call as a part of a session
abbrev pub made_calls : List ServerCall → List Answer → List (CompletedCall ReplyValue)
made_calls [] answers = []
made_calls (call ∷ calls) [] = []
made_calls (call ∷ calls) (answer ∷ answers) =
    record {
      call = record { size = call.group; bodies = call_bodies call; replies = answer.replies.items };
      moment = answer.moment;
    }
    ∷ made_calls calls answers

-- each of these calls was answered
pub record HasReplied (calls : List ServerCall) (answers : List Answer)
    (done : List (CompletedCall ReplyValue)) : Type 0 where
  pub all : length answers ≡ length calls
  pub are : done ≡ made_calls calls answers

-- Calls with this property were made of a server, each after the one before had ended. It has returned its disk, and
-- a crash keeps a prefix of their groups.
pub record PlaysCalls {S R D : Type 0} {g : Ghosts D} (t : StateMachine S R) (serving : Serving g S R)
    (asked : List (CompletedCall R) → Storage D g → S → Type 0) (stop : ℕ) (first : Storage D g) (back : D)
    (before after : S) : Type 0 where
  pub calls : List (CompletedCall R)
  pub last : Storage D g
  pub end : S
  pub asks : asked calls last end
  pub made : CallSequence serving first before calls last end
  pub disk : back ≡ disk_of last
  pub stops : KeepsDurablePrefix t stop calls before after

-- Calls were made, or the server received a stream, of one client or of many.
abbrev pub HasPlayed : {D : Type 0} {g : Ghosts D} → Asked → Replies → ℕ → Server D g → D → State → State → Type 0
HasPlayed (ask.Calls calls) (told.Calls answers) stop first back before after =
    PlaysCalls server_machine Serves (λ done last end. HasReplied calls.items answers.items done)
    stop first.engine.storage back before after
HasPlayed (ask.Stream input) (told.Stream written) stop first back before after =
    PlaysCalls server_machine Serves
    (λ done last end. HasWritten input written first.engine.storage first.engine.host done last end)
    stop first.engine.storage back before after
HasPlayed (ask.Frames input) (told.Frames written) stop first back before after =
    PlaysCalls shared_machine ServesShared (λ done last end. HasWrittenFrames input written first done last end)
    stop first.engine.storage back (shared before []) (shared after [])
HasPlayed (ask.Calls calls) (told.Stream written) stop first back before after = ⊥
HasPlayed (ask.Calls calls) (told.Frames written) stop first back before after = ⊥
HasPlayed (ask.Stream input) (told.Calls answers) stop first back before after = ⊥
HasPlayed (ask.Stream input) (told.Frames written) stop first back before after = ⊥
HasPlayed (ask.Frames input) (told.Calls answers) stop first back before after = ⊥
HasPlayed (ask.Frames input) (told.Stream written) stop first back before after = ⊥

-- ---- a session and its stop

-- A session and its result, from a disk with these contents, a store of the state before, to what its crash has left,
-- a store of the state after.
pub record IsTranscriptUntilCrash (session : Played) (heard : Transcript) (found : List ℕ) (before : State)
    (left : List ℕ)
    (after : State) : Type 0 where
  -- a server was opened on a disk with the found contents, whose clock begins with the opening, and it serves the
  -- state before
  pub start : MemoryDisk
  pub fresh : IsFreshDisk start
  pub holds_found : memory_contents start ≡ found
  pub first : Opened
  pub begins : IsRecovered start first.server before
  -- it received the requests of the session as calls, each made after the one before had ended; it has returned its
  -- disk; and the crash keeps a prefix of these calls
  pub played : HasPlayed session.asked heard.replies session.moment first.server heard.disk before after
  -- what is left is what a crash of this disk at that point in time leaves, with that tear
  pub torn : IsTornAt heard.disk session.tear (min session.moment (moments_of heard.disk)) left
  pub holds : HoldsState server_machine after left

-- ---- one step after another

-- there were no requests
abbrev pub IsSilent : Replies → Type 0
IsSilent (told.Calls answers) = answers.items ≡ []
IsSilent (told.Stream written) = ⊥
IsSilent (told.Frames written) = ⊥

-- A session is run, or a checkpoint is made, which has no calls and does not change the state.
abbrev pub IsStepped : Step → Transcript → List ℕ → State → List ℕ → State → Type 0
IsStepped (CrashedSession session) heard found before left after =
    IsTranscriptUntilCrash session heard found before left after
IsStepped (Checkpoint stop) heard found before left after =
    IsCheckpointed found stop heard.disk left before × IsSilent heard.replies × (after ≡ before)

-- each step on what the one before has left
abbrev pub HistorySteps : List ℕ → State → List Step → List Transcript → List ℕ → State → Type 0
HistorySteps found before [] [] left after = (found ≡ left) × (before ≡ after)
HistorySteps found before (step ∷ steps) (heard ∷ others) left after =
    (image : List ℕ) × (mid : State) × IsStepped step heard found before image mid
    × HistorySteps image mid steps others left after
HistorySteps found before [] (heard ∷ others) left after = ⊥
HistorySteps found before (step ∷ steps) [] left after = ⊥

-- A crash history on a store of a state, and its end: a server that was opened on what is left, and serves the state
-- that this is a store of; the store's library, and its table.
pub record IsCrashHistoryOn (found : List ℕ) (state : State) (steps : List Step) (lived : CrashHistory) : Type 0 where
  pub left : List ℕ
  pub last : State
  pub lives : HistorySteps found state steps lived.heard.items left last
  pub end : MemoryDisk
  pub holds_left : memory_contents end ≡ left
  pub begins : IsRecovered end lived.opened.server last
  pub library : lived.library.items ≡ canonical last.library
  pub table : lived.table ≡ last.table

-- Such a store is new, on a disk of this many bytes.
pub record IsCrashHistory (bytes : ℕ) (state : State) (steps : List Step) (lived : CrashHistory) : Type 0 where
  pub new : List ℕ
  pub size : length new ≡ bytes
  pub holds : HoldsState server_machine state new
  pub history : IsCrashHistoryOn new state steps lived
