use Rattle.std.proofs.Common.{rules}
use Rattle.oa_server.proofs.TurnsOverStore.{called_where_due, has_turn, held, makes_event, starved}
use Rattle.oa_server.proofs.holding.hold.Goals as goal

pub returns-in-Ok-clause-turn : goal.returns-in-Ok-clause-turn
returns-in-Ok-clause-turn g c body plain is =
    let added = c.in-Ok.ensures.added in
    held c.one_request.ensures c.args.host.now body c.args.planned plain is _ c.new.result c.args.batch.now c.hold_change.new.batch c.in-Ok.ensures.change.0
    c.in-Ok.ensures.change.1 (search rules) added.replays added.small added.behind

pub returns-in-Err-Memory-clause-turn : goal.returns-in-Err-Memory-clause-turn
returns-in-Err-Memory-clause-turn g c body plain is =
    starved c.one_request.ensures c.args.host.now body c.args.planned plain is _ c.bare.result c.args.batch.now c.hold_change.new.batch
    (search rules) c.in-Err-Memory.ensures.same c.bare.ensures

pub returns-clause-failed : goal.returns-clause-failed
returns-clause-failed g c body plain is = record {
  turn = has_turn c.one_request.ensures c.args.host.now body c.args.planned plain is _ (search rules);
  same = search rules;
  due = record {
    first = search rules;
    short = search rules;
    makes = makes_event c.one_request.ensures c.args.host.now body c.args.planned plain is
        (rw c.as_event.ensures at c.is_event.ensures);
  };
}

pub returns-in-Ok-clause-calls : goal.returns-in-Ok-clause-calls
returns-in-Ok-clause-calls g c body plain is =
    called_where_due c.one_request.ensures c.args.host.now body c.args.planned plain is {g = g.D.Disk} c.args.store.now c.hold_change.new.store c.args.batch.now
    (rw c.as_event.ensures at c.is_event.ensures) c.hold_change.ensures.calls.quiet c.hold_change.ensures.calls.undue

pub returns-in-Err-Memory-clause-calls : goal.returns-in-Err-Memory-clause-calls
returns-in-Err-Memory-clause-calls g c body plain is =
    called_where_due c.one_request.ensures c.args.host.now body c.args.planned plain is {g = g.D.Disk} c.args.store.now c.hold_change.new.store c.args.batch.now
    (rw c.as_event.ensures at c.is_event.ensures) c.hold_change.ensures.calls.quiet c.hold_change.ensures.calls.undue

pub returns-clause-calls : goal.returns-clause-calls
returns-clause-calls g c body plain is =
    called_where_due c.one_request.ensures c.args.host.now body c.args.planned plain is {g = g.D.Disk} c.args.store.now c.hold_change.new.store c.args.batch.now
    (rw c.as_event.ensures at c.is_event.ensures) c.hold_change.ensures.calls.quiet c.hold_change.ensures.calls.undue
