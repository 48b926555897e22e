use Rattle.std.proofs.Common.{[], subst}
use Rattle.oa_server.specs.promise.SharedMachine.{shared, tagged_body}
use Rattle.oa_server.proofs.HeldForMany.{lock_eventless, same_from}
use Rattle.oa_mux.specs.promise.Readers.{Body}
use Rattle.oa_decision.specs.promise.States.{State}
use Rattle.oa_turn.specs.promise.Locking.{AsksLock}
use Rattle.oa_server.proofs.desk.ask_over.Goals as goal

pub returns-in-Some-clause-held : goal.returns-in-Some-clause-held
returns-in-Some-clause-held g c is =
    c.hold.ensures.held is (shared c.args.host.now c.args.desk.now.owners) (tagged_body c.args.client (Body c.args.body.now))
    (lock_eventless c.args.client c.args.body.now c.in-Some.reply (shared c.args.host.now c.args.desk.now.owners)
    (shared c.lock_turn.new.host c.lock_turn.new.owners) c.in-Some.ensures.some)

pub returns-in-Some-clause-told : goal.returns-in-Some-clause-told
returns-in-Some-clause-told g c is =
    c.hold.ensures.told is (shared c.args.host.now c.args.desk.now.owners) (tagged_body c.args.client (Body c.args.body.now))
    (lock_eventless c.args.client c.args.body.now c.in-Some.reply (shared c.args.host.now c.args.desk.now.owners)
    (shared c.lock_turn.new.host c.lock_turn.new.owners) c.in-Some.ensures.some)

pub admit_for-requires-in-None-clause-none : goal.admit_for-requires-in-None-clause-none
admit_for-requires-in-None-clause-none g c going change asks =
    c.in-None.ensures.none change (subst (λ (s : State). AsksLock s c.args.body.now change) c.in-None.ensures.same.0 asks)

pub returns-in-None-clause-held : goal.returns-in-None-clause-held
returns-in-None-clause-held g c is =
    let desk = c.args.desk.now in
    same_from {g = g.D.Disk} desk.open_group.size (tagged_body c.args.client (Body c.args.body.now)) [] c.args.store.now c.args.host.now c.lock_turn.new.host
    desk.owners c.lock_turn.new.owners desk.askers.items desk.open_group.replies.items desk.open_group.batch _ c.in-None.ensures.same.0
    c.in-None.ensures.same.1 (c.admit_for-in-None.ensures.held is)

pub returns-in-None-clause-told : goal.returns-in-None-clause-told
returns-in-None-clause-told g c is =
    let desk = c.args.desk.now in
    same_from {g = g.D.Disk} desk.open_group.size (tagged_body c.args.client (Body c.args.body.now)) _ c.args.store.now c.args.host.now c.lock_turn.new.host
    desk.owners c.lock_turn.new.owners desk.askers.items desk.open_group.replies.items desk.open_group.batch _ c.in-None.ensures.same.0
    c.in-None.ensures.same.1 (c.admit_for-in-None.ensures.told is)
