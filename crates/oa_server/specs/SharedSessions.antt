-- Definitions for contracts and proofs, beside promise/SharedSessions.
use Rattle.std.specs.Prelude.{◌≡◌, ℕ, List, [], ◌∷◌, ◌++◌}
use Rattle.oa_disk.specs.declared.disk.Disk.{Ghosts}
use Rattle.oa_store.specs.declared.store.Store.{Store}
use Rattle.oa_server.specs.promise.SharedSessions.{asked_written}
use Rattle.oa_server.specs.promise.SharedMachine.{shared, all_told}
use Rattle.oa_server.specs.Stretches.{AnswersStretches}
use Rattle.oa_server.specs.declared.storage.Storage.TheVariants.{Disk}
use Rattle.oa_server.specs.declared.engine.ServerState.{ServerState}
use Rattle.oa_mux.specs.promise.Marks.{Flush, Tagged}
use Rattle.oa_mux.specs.promise.Readers.{Brought}
use Rattle.oa_mux.specs.promise.Talking.{AllTurned}

-- Over a store without an open group: the requests up to a last *now* are answered by calls that were served, one for
-- each *now*.
abbrev pub StretchesAreServed : {D : Type 0} → Ghosts D → Type 0
StretchesAreServed {D} g =
    (old new : ServerState D g) (start : Store D g) (asks : List (Tagged Brought)) (tolds : List (List (ℕ × List ℕ)))
    → old.storage ≡ Disk start → old.desk.open_group.replies.items ≡ [] → old.desk.open_group.batch ≡ []
    → AllTurned asked_written old (asks ++ Flush ∷ []) tolds new
    → (last : Store D g) × (new.storage ≡ Disk last)
    × AnswersStretches old.desk.open_group.size start last (shared old.host old.desk.owners)
    (asks ++ Flush ∷ []) (all_told tolds) (shared new.host new.desk.owners)
