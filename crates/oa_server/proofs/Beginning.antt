-- What was served can be served again.
use Rattle.std.proofs.Common.{List, [], ◌∷◌, subst, ◌∙◌}
use Rattle.oa_compat.proofs.Kept.{unlocked_fits}
use Rattle.oa_group_commit.specs.promise.Groups.{Trace, Exchange}
use Rattle.oa_image.proofs.Numbered.{unlocked_numbers}
use Rattle.oa_image.proofs.TablesWithImages.{same_table}
use Rattle.oa_record.specs.promise.Replies.{ReplyValue}
use Rattle.oa_turn.proofs.Beginning.{turn_begins}
use Rattle.oa_turn.proofs.Fitting.{EventKept}
use Rattle.oa_turn.specs.promise.Beginnings.{CanBegin}
use Rattle.oa_decision.specs.promise.States.{State}
use Rattle.oa_server.specs.promise.ServerMachine.{opened, server_machine}

module _ (event_kept : EventKept) where
  pub groups_begin : (old new : State) (entries : List (Exchange ReplyValue)) → CanBegin old → Trace server_machine old entries new → CanBegin new
  groups_begin old new [] is r = subst CanBegin r is
  groups_begin old new (asked ∷ entries) is r = groups_begin r.0 new entries (turn_begins event_kept old r.0 asked.body asked.reply is r.1.turn) r.2

pub opened_begins : (state : State) → CanBegin state → CanBegin (opened state)
opened_begins state is = record {
  checked = is.checked;
  serves = record {
    fit = unlocked_fits state.library state.table ∙ is.serves.fit;
    small = let image = same_table state.table in rw image is.serves.small;
  };
  numbered = unlocked_numbers state.table ∙ is.numbered;
}
