-- A server of many clients over a store, from its opening to a crash, and from one crash to the next. (This project's
-- choice.)
use Rattle.std.specs.Prelude.{◌≡◌, ◌≤◌, ℕ, Bool, false, List, [], ◌∷◌, ◌++◌, length, map}
use Rattle.oa_disk.specs.declared.disk.Disk.{Ghosts}
use Rattle.oa_printer.specs.promise.Canonical.{canonical}
use Rattle.oa_group_commit.specs.promise.Groups.{MayBeLeft, HoldsState}
use Rattle.oa_idl.specs.promise.Trees.{TreeValue}
use Rattle.oa_journal.specs.declared.shape.BankFormat.TheVariants.{Two}
use Rattle.oa_store.specs.promise.Stores.{IsStoreIn}
use Rattle.oa_store.specs.declared.store.Store.{Store}
use Rattle.oa_server.specs.promise.SharedSessions.{all_frames, asked_written}
use Rattle.oa_server.specs.promise.SharedMachine.{shared_machine, ClientReply, Shared, shared, all_told}
use Rattle.oa_server.specs.promise.Storages.{OverStore, disk_of}
use Rattle.oa_server.specs.declared.engine.ServerState.{ServerState}
use Rattle.oa_server.specs.declared.storage.Storage.TheVariants.{Disk}
use Rattle.oa_mux.specs.promise.Marks.{Tagged}
use Rattle.oa_mux.specs.promise.Readers.{Brought}
use Rattle.oa_mux.specs.promise.Talking.{AllTurned}
use Rattle.oa_decision.specs.promise.States.{state_of}
use Rattle.oa_history.specs.promise.CrashHistories.{SessionStart}
use Rattle.oa_table.specs.promise.Tables.{TableValue, unlocked_table}
use Rattle.oa_turn.specs.promise.Beginnings.{CanBegin}
use Rattle.oa_typelib.specs.promise.Checked.{IsChecked}
use Rattle.oa_linearizable.specs.promise.Histories.{ComesInOrder, History, IsDurablyLinearizable}
use Rattle.oa_linearizable.specs.promise.Tables.{inputs_in, result_for, the_table}

-- One era: the disk at its start; whether a call of the device failed in it; the requests that were answered by whole
-- turns, in order; the other requests that were made before the crash; the frames that were sent; and what the crash
-- has left of the disk.
pub record Era (D : Type 0) : Type 0 where
  pub start : D
  pub has_failed : Bool
  pub served : List (Tagged Brought)
  pub waiting : List (Tagged Brought)
  pub frames : List (ℕ × List ℕ)
  pub left : List ℕ

-- A server was opened on the disk, in the state that it found, and received requests. Each was answered by a turn,
-- with the frames that it sends, before the next. The crash came after these turns, within the next one or before it.
pub record RunsUntilCrash {D : Type 0} (g : Ghosts D) (before : Shared) (era : Era D) : Type 0 where
  pub store : Store D g
  pub first : ServerState D g
  pub over : first.storage ≡ Disk store
  pub sits : SessionStart shared_machine era.start store before
  pub serves : shared first.host first.desk.owners ≡ before
  pub no_replies : first.desk.open_group.replies.items ≡ []
  pub no_events : first.desk.open_group.batch ≡ []
  pub tolds : List (List (ℕ × List ℕ))
  pub mid : ServerState D g
  pub run : AllTurned asked_written first era.served tolds mid
  pub frames_are : era.frames ≡ all_told tolds
  pub well : era.has_failed ≡ false → OverStore mid.storage (λ store. store.stopped ≡ false)
  -- the turn within which the crash came, if it came within one
  pub next : List (Tagged Brought)
  pub others : List (Tagged Brought)
  pub one : length next ≤ 1
  pub waiting_are : era.waiting ≡ next ++ others
  pub unheard : List (List (ℕ × List ℕ))
  pub last : ServerState D g
  pub turn : AllTurned asked_written mid next unheard last
  -- the crash
  pub moment : ℕ
  pub behind : g.moment (disk_of mid.storage) ≤ moment
  pub may_be_left : MayBeLeft g (disk_of last.storage) moment era.left

-- A history of this era: the requests were invoked in the order in which they were read; a prefix of these replies
-- was received, in the order in which they were written, each after its request was invoked.
abbrev pub IsHistoryOf : {D : Type 0} → Era D → List ClientReply → History Brought ClientReply → Type 0
IsHistoryOf era replies history =
    ComesInOrder history (inputs_in (era.served ++ era.waiting)) (map result_for replies)

-- ---- one era after another

-- What recovery finds in the bytes that a crash left: a library and a table, and no locks. (IsOpened of oa_server
-- states it of an opening.)
pub record RecoversState (left : List ℕ) (found : Shared) : Type 0 where
  pub bank : ℕ
  pub library : TreeValue
  pub table : TableValue
  pub checked : IsChecked library
  pub holds : IsStoreIn (Two bank) left (canonical library) table
  pub unlocked : unlocked_table table ≡ table
  pub is : found ≡ shared (state_of bank library table) []

-- Each era begins on what the crash before it has left, in the state that its recovery finds there.
abbrev pub RunsThroughCrashes : {D : Type 0} → Ghosts D → Shared → List ℕ → List (Era D) → Type 0
RunsThroughCrashes g before found [] = Unit {0}
RunsThroughCrashes g before found (era ∷ eras) =
    (g.contents era.start ≡ found) × RunsUntilCrash g before era × (next : Shared) × RecoversState era.left next
    × RunsThroughCrashes g next era.left eras

-- whether a call of the device failed, of each era
abbrev pub failed_in : {D : Type 0} → List (Era D) → List Bool
failed_in [] = []
failed_in (era ∷ eras) = era.has_failed ∷ failed_in eras

-- what the last crash left
abbrev pub left_at_last : {D : Type 0} → List ℕ → List (Era D) → List ℕ
left_at_last found [] = found
left_at_last found (era ∷ eras) = left_at_last era.left eras

-- the frames of each era are those of these replies
abbrev pub AreFramesOf : {D : Type 0} → List (Era D) → List (List ClientReply) → Type 0
AreFramesOf [] [] = Unit {0}
AreFramesOf (era ∷ eras) (replies ∷ others) = (era.frames ≡ all_frames replies) × AreFramesOf eras others
AreFramesOf [] (replies ∷ others) = ⊥
AreFramesOf (era ∷ eras) [] = ⊥

abbrev pub AreHistoriesOf : {D : Type 0} → List (Era D) → List (List ClientReply) → List (History Brought ClientReply)
    → Type 0
AreHistoriesOf [] [] [] = Unit {0}
AreHistoriesOf (era ∷ eras) (replies ∷ others) (history ∷ histories) =
    IsHistoryOf era replies history × AreHistoriesOf eras others histories
AreHistoriesOf [] [] (history ∷ histories) = ⊥
AreHistoriesOf [] (replies ∷ others) histories = ⊥
AreHistoriesOf (era ∷ eras) [] histories = ⊥
AreHistoriesOf (era ∷ eras) (replies ∷ others) [] = ⊥

-- However often the server crashes: each history of its clients' requests and replies is durably linearizable, and
-- the disk is a store of the last state.
pub record IsDurable {D : Type 0} (before : Shared) (found : List ℕ) (eras : List (Era D)) : Type 0 where
  pub replies : List (List ClientReply)
  pub frames_are : AreFramesOf eras replies
  pub after : Shared
  pub linearizable : (histories : List (History Brought ClientReply)) → AreHistoriesOf eras replies histories
      → IsDurablyLinearizable the_table before (failed_in eras) histories after
  pub holds : HoldsState shared_machine after (left_at_last found eras)

abbrev pub ServersAreDurable : {D : Type 0} → Ghosts D → Type 0
ServersAreDurable {D} g = (before : Shared) (found : List ℕ) (eras : List (Era D))
    → CanBegin before.state → HoldsState shared_machine before found
    → RunsThroughCrashes g before found eras
    → IsDurable before found eras
