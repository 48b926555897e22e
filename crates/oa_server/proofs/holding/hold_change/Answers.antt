use Rattle.std.proofs.Common.{ap, rules}
use Rattle.oa_image.proofs.Lengths.{event_bytes}
use Rattle.oa_store.proofs.Committed.{one_event}
use Rattle.oa_table.specs.promise.Tables.{unlocked_table}
use Rattle.oa_turn.proofs.Allowed.{is_allowed}
use Rattle.oa_server.proofs.TurnsOverStore.{carried}
use Rattle.oa_server.proofs.holding.hold_change.Goals as goal

pub returns-in_err-checkpoint_if_due-clause-way : goal.returns-in_err-checkpoint_if_due-clause-way
returns-in_err-checkpoint_if_due-clause-way g c = record {
  carries = carried c.args.batch.now c.args.store.now c.checkpoint_if_due.new.store
      (ap unlocked_table c.table.ensures.table) c.checkpoint_if_due.ensures.carries;
  stops = search rules;
  goes = c.checkpoint_if_due.ensures.goes;
}

pub returns-in_err-add_change-clause-way : goal.returns-in_err-add_change-clause-way
returns-in_err-add_change-clause-way g c = record {
  carries = carried c.args.batch.now c.args.store.now c.checkpoint_if_due.new.store
      (ap unlocked_table c.table.ensures.table) c.checkpoint_if_due.ensures.carries;
  stops = search rules;
  goes = c.checkpoint_if_due.ensures.goes;
}

pub returns-clause-way : goal.returns-clause-way
returns-clause-way g c = record {
  carries = carried c.args.batch.now c.args.store.now c.checkpoint_if_due.new.store
      (ap unlocked_table c.table.ensures.table) c.checkpoint_if_due.ensures.carries;
  stops = search rules;
  goes = c.checkpoint_if_due.ensures.goes;
}

pub returns-clause-added : goal.returns-clause-added
returns-clause-added g c = record {
  replays = one_event c.args.event c.args.host.now.table c.add_change.new.host.table
      (rw c.as_event.ensures at c.is_event.ensures) c.in_ok-add_change.ensures.change.0;
  small =
      (is_allowed c.args.host.now.bank c.args.event c.args.host.now.table c.add_change.new.host.table c.requires.change.allows
      c.in_ok-add_change.ensures.change.0).event_small;
  some = event_bytes c.args.event (rw c.as_event.ensures at c.is_event.ensures);
  behind = c.in_ok-add_change.ensures.event;
}
