-- Definitions for contracts and proofs, beside promise/Framed.
use Rattle.std.proofs.Common.{◌≡◌, ℕ, List, [], ◌∷◌, ◌++◌, map}
use Rattle.oa_disk.specs.declared.disk.Disk.{Ghosts}
use Rattle.oa_server.specs.promise.SharedSessions.{asked_written}
use Rattle.oa_server.specs.promise.SharedMachine.{ClientReply, Shared, client_in, shared}
use Rattle.oa_server.specs.promise.Storages.{OverStore}
use Rattle.oa_server.specs.declared.engine.ServerState.{ServerState}
use Rattle.oa_server.specs.declared.server.Server.{Server}
use Rattle.oa_server.specs.declared.storage.Storage.{Storage}
use Rattle.oa_server.specs.declared.storage.Storage.TheVariants.{Disk}
use Rattle.oa_mux.specs.promise.Marks.{Flush, Tagged}
use Rattle.oa_mux.specs.promise.Readers.{Brought}
use Rattle.oa_mux.specs.promise.Talking.{AllTurned}
use Rattle.oa_store.specs.declared.store.Store.{Store}
use Rattle.oa_history.specs.promise.DurablePrefixes.{CallSequence, CompletedCall}
use Rattle.oa_history.specs.declared.session.SharedInput.{SharedInput}
use Rattle.oa_history.specs.declared.session.WrittenFrames.{WrittenFrames}
use Rattle.oa_history.specs.promise.Framed.{ServesShared, client_of, ends_of_turns, AreTurnsOf, HasWrittenFrames}

-- ---- the turns of a session as calls

-- Each reply of a call goes to the client of its request.
abbrev pub RepliesGoToClients : {D : Type 0} → Ghosts D → Type 0
RepliesGoToClients {D} g =
    (size : ℕ) (old new : Storage D g) (before after : Shared) (bodies : List (List ℕ)) (replies : List ClientReply)
    → ServesShared size old new before bodies replies after → map client_of replies ≡ map client_in bodies

-- Over a store without an open group: the turns up to a last *now* are calls that were served, each of which ends
-- when frames are sent, or at a *now*.
abbrev pub TurnsAreCalls : {D : Type 0} → Ghosts D → Type 0
TurnsAreCalls {D} g =
    (old new : ServerState D g) (start : Store D g) (asks : List (Tagged Brought)) (tolds : List (List (ℕ × List ℕ)))
    → old.storage ≡ Disk start → old.desk.open_group.replies.items ≡ [] → old.desk.open_group.batch ≡ []
    → (run : AllTurned asked_written old (asks ++ Flush ∷ []) tolds new)
    → (calls : List (CompletedCall ClientReply))
    × AreTurnsOf old.desk.open_group.size calls (asks ++ Flush ∷ []) tolds
    (ends_of_turns old new (asks ++ Flush ∷ []) tolds run)
    × CallSequence ServesShared old.storage (shared old.host old.desk.owners) calls new.storage
    (shared new.host new.desk.owners)

-- ---- a session

-- So over a store each call was made after the one before had ended.
abbrev pub MakesCalls : {D : Type 0} {g : Ghosts D} → SharedInput → WrittenFrames → Server D g → Server D g → Type 0
MakesCalls input written old new =
    OverStore old.engine.storage (λ store. Unit {0})
    → (done : List (CompletedCall ClientReply)) × (end : Shared)
    × HasWrittenFrames input written old done new.engine.storage end
    × CallSequence ServesShared old.engine.storage (shared old.engine.host []) done new.engine.storage end
