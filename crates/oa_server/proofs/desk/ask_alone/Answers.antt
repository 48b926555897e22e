use Rattle.oa_server.proofs.HeldForMany.{lifted_alone}
use Rattle.oa_server.proofs.LockTurns.{apart_asks_none}
use Rattle.oa_server.proofs.desk.ask_alone.Goals as goal

pub returns-clause-told : goal.returns-clause-told
returns-clause-told g c = λ client.
    let desk = c.args.desk.now in
    lifted_alone {g = g.D.Disk} desk.open_group.size client c.args.body.now desk.askers.items desk.owners c.admit_barrier.result desk.open_group.replies.items
    c.admit_barrier.new.open_group.replies.items desk.open_group.batch c.admit_barrier.new.open_group.batch
    c.args.store.now c.admit_barrier.new.store c.args.host.now c.admit_barrier.new.host c.requires.ready.each c.requires.none c.admit_barrier.ensures.none
    (λ state change asks. apart_asks_none c.a_replacement_is_no_request.ensures c.refused_asks_nothing.ensures.stub c.args.body.now state change c.requires.kind
    asks) c.admit_barrier.ensures.told
