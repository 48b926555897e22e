use Rattle.oa_server.proofs.Replacing.{taken_by_itself}
use Rattle.oa_server.proofs.grouping.take_apart.Goals as goal

pub returns-clause-told : goal.returns-clause-told
returns-clause-told g c =
    taken_by_itself {g = g.D.Disk} c.args.store.now c.flush_held.new.store c.replaced_or_late-reply.new.store c.args.host.now c.replaced_or_late-reply.new.host
    c.args.body.now c.replaced_or_late-reply.result c.requires.kind
    c.args.open_group.now.replies.items c.flush_held.new.open_group.replies.items c.args.open_group.now.batch c.flush_held.new.open_group.batch
    c.flush_held.ensures.ended c.replaced_or_late-reply.ensures.replaced c.push_reserved.new.self.items c.push_reserved.ensures.items c.new.result c.new.ensures
    c.args.open_group.now.size
