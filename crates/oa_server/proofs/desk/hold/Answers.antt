use Rattle.std.proofs.Common.{rules}
use Rattle.oa_server.proofs.HeldForMany.{fills_up, kept_on}
use Rattle.oa_server.proofs.desk.hold.Goals as goal

pub returns-then-not-is_full-clause-held : goal.returns-then-not-is_full-clause-held
returns-then-not-is_full-clause-held g c is before body one =
    let desk = c.args.desk.now in
    rw c.push_reserved.ensures.items
    (kept_on {g = g.D.Disk} (λ d f honest since. g.met.D.Disk.only_now d f honest since) c.args.store.now c.requires.going desk.open_group.size c.args.asker
    desk.askers.items c.args.reply desk.open_group.replies.items c.push_reserved-2.new.self.items desk.open_group.batch
    desk.owners c.args.host.now c.requires.ready.each c.push_reserved-2.ensures.items before body one (search rules))

pub returns-clause-told : goal.returns-clause-told
returns-clause-told g c is before body one =
    let desk = c.args.desk.now in
    rw c.push_reserved.ensures.items
    (fills_up {g = g.D.Disk} (λ d f honest since. g.met.D.Disk.only_now d f honest since) c.args.store.now c.requires.going desk.open_group.size c.args.asker
    desk.askers.items c.args.reply desk.open_group.replies.items c.push_reserved-2.new.self.items desk.open_group.batch
    desk.owners c.args.host.now c.requires.ready.each c.push_reserved-2.ensures.items before body c.commit_group.new.store
    c.commit_group.new.open_group.replies.items _ c.commit_group.new.open_group.batch one (search rules) c.commit_group.ensures.settled)
