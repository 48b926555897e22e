use Rattle.std.proofs.Common.{[]}
use Rattle.oa_server.proofs.HeldForMany.{with_no_events}
use Rattle.oa_server.proofs.Lifted.{lifted_ended}
use Rattle.oa_server.proofs.desk.finish_over.Goals as goal

pub returns-clause-ended : goal.returns-clause-ended
returns-clause-ended g c =
    let desk = c.args.desk.now in
    rw c.new.ensures
    (lifted_ended {g = g.D.Disk} desk.askers.items desk.owners c.flush_held.new.open_group.replies.items desk.open_group.replies.items [] desk.open_group.batch
    [] c.args.store.now c.flush_held.new.store c.args.host.now c.args.host.now c.requires.ready.each
    (with_no_events {g = g.D.Disk} c.flush_held.new.open_group.replies.items desk.open_group.replies.items [] desk.open_group.batch
    c.flush_held.new.open_group.batch c.args.store.now c.flush_held.new.store c.args.host.now c.args.host.now c.flush_held.ensures.ended))
