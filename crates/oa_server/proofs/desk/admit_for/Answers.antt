use Rattle.std.proofs.Common.{[], None, refl, sym, true≢false, ◌∙◌}
use Rattle.oa_server.proofs.HeldForMany.{none_told}
use Rattle.oa_server.proofs.Lifted.{lifted_taken}
use Rattle.oa_server.proofs.desk.admit_for.Goals as goal

pub returns-clause-held : goal.returns-clause-held
returns-clause-held g c is =
    let desk = c.args.desk.now in
    rw c.push_reserved.ensures.items
    (none_told _ _ _ _ _
    (lifted_taken {g = g.D.Disk} desk.open_group.size c.args.client c.args.body.now (record { client = c.args.client; why = None }) refl desk.askers.items
    desk.owners [] desk.open_group.replies.items c.admit.new.open_group.replies.items desk.open_group.batch c.admit.new.open_group.batch
    c.args.store.now c.admit.new.store c.args.host.now c.admit.new.host c.requires.ready.each c.requires.none
    (λ state change kind asks. true≢false (sym kind ∙ c.requires.plain)) c.requires.ready.ready.late (c.admit.ensures.held is)))

pub returns-clause-told : goal.returns-clause-told
returns-clause-told g c is =
    let desk = c.args.desk.now in
    rw c.push_reserved.ensures.items
    (lifted_taken {g = g.D.Disk} desk.open_group.size c.args.client c.args.body.now (record { client = c.args.client; why = None }) refl desk.askers.items
    desk.owners c.admit.new.open_group.replies.items desk.open_group.replies.items [] desk.open_group.batch c.admit.new.open_group.batch
    c.args.store.now c.admit.new.store c.args.host.now c.admit.new.host c.requires.ready.each c.requires.none
    (λ state change kind asks. true≢false (sym kind ∙ c.requires.plain)) c.requires.ready.ready.late (c.admit.ensures.told is))
