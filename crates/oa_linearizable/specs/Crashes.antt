-- Definitions for contracts and proofs, beside promise/Crashes.
use Rattle.std.specs.Prelude.{◌≡◌, ℕ, List, ◌++◌}
use Rattle.oa_disk.specs.declared.disk.Disk.{Ghosts}
use Rattle.oa_group_commit.specs.promise.Groups.{HoldsState}
use Rattle.oa_server.specs.promise.SharedSessions.{all_frames}
use Rattle.oa_server.specs.promise.SharedMachine.{shared_machine, ClientReply, Shared}
use Rattle.oa_mux.specs.promise.Readers.{Brought}
use Rattle.oa_linearizable.specs.Clients.{ClientIsServed}
use Rattle.oa_linearizable.specs.promise.Histories.{History, IsLegal, IsLinearizedBy, Operation}
use Rattle.oa_linearizable.specs.promise.Tables.{the_table}
use Rattle.oa_linearizable.specs.promise.Crashes.{Era, RunsUntilCrash, IsHistoryOf}

-- One era is linearizable: one order of requests linearizes each such history, and the crash leaves a store of the
-- state after that order. The frames are those of the replies.
pub record EraIsLinearizable {D : Type 0} (before : Shared) (era : Era D) : Type 0 where
  pub replies : List ClientReply
  pub frames_are : era.frames ≡ all_frames replies
  pub order : List (Operation Brought ClientReply)
  pub after : Shared
  pub linearized : (history : History Brought ClientReply) → IsHistoryOf era replies history
      → IsLinearizedBy history order
  pub legal : IsLegal (the_table era.has_failed) before order after
  pub holds : HoldsState shared_machine after era.left
  pub each_client : (client : ℕ) → ClientIsServed client (era.served ++ era.waiting) era.frames order

abbrev pub EachEraIsLinearizable : {D : Type 0} → Ghosts D → Type 0
EachEraIsLinearizable {D} g = (before : Shared) (era : Era D)
    → RunsUntilCrash g before era → EraIsLinearizable before era
