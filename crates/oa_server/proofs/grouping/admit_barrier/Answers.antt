use Rattle.std.proofs.Common.{List, [], ◌∷◌, inl, refl, subst, sym}
use Rattle.oa_group_commit.specs.promise.Groups.{IsAdmitted}
use Rattle.oa_record.specs.promise.Replies.{ReplyValue}
use Rattle.oa_server.specs.OpenGroups.{grouping, grouping_of}
use Rattle.oa_server.specs.promise.ServerMachine.{server_machine}
use Rattle.oa_server.proofs.Replacing.{taken_by_itself}
use Rattle.oa_server.proofs.grouping.admit_barrier.Goals as goal

pub returns-clause-told : goal.returns-clause-told
returns-clause-told g c =
    let open_group = c.args.open_group.now in
    let reply = c.replaced_or_late.result in
    subst (λ (l : List ReplyValue). IsAdmitted server_machine open_group.size c.args.body.now (reply ∷ [])
    (grouping_of c.args.store.now c.args.host.now open_group) (grouping c.replaced_or_late.new.store c.replaced_or_late.new.host l c.new.result))
    (sym c.requires.none)
    (taken_by_itself {g = g.D.Disk} c.args.store.now c.args.store.now c.replaced_or_late.new.store c.args.host.now c.replaced_or_late.new.host c.args.body.now
    reply c.requires.kind open_group.replies.items [] open_group.batch open_group.batch
    (inl (record { none = c.requires.none; nothing = refl; store = refl; state = refl })) c.replaced_or_late.ensures.replaced
    (reply ∷ []) refl c.new.result c.new.ensures open_group.size)
