use Rattle.std.proofs.Common.{rules, inl, inr, refl}
use Rattle.oa_server.specs.OpenGroups.{grouping}
use Rattle.oa_server.proofs.Settled.{held_one}
use Rattle.oa_server.proofs.grouping.admit.Goals as goal

pub returns-then-not-is_full-clause-held : goal.returns-then-not-is_full-clause-held
returns-then-not-is_full-clause-held g c is =
    let open_group = c.args.open_group.now in
    let said = c.in-Ok.ensures in
    inl (record {
      was = search rules;
      reply = c.in-Ok.reply;
      event = said.turn.event;
      held =
          held_one c.args.store.now c.turn_held.new.store c.args.body.now c.in-Ok.reply c.args.host.now c.turn_held.new.host open_group.replies.items
          c.push_reserved-in-Ok.new.self.items open_group.batch c.turn_held.new.batch said.turn
          (search rules) said.holds.going said.holds.carries said.calls said.holds.goes (search rules);
      short = search rules;
      nothing = refl;
    })

pub returns-else-not-is_full-clause-told : goal.returns-else-not-is_full-clause-told
returns-else-not-is_full-clause-told g c is =
    let open_group = c.args.open_group.now in
    let said = c.in-Ok.ensures in
    inr (inl (record {
      was = search rules;
      reply = c.in-Ok.reply;
      event = said.turn.event;
      mid = grouping c.turn_held.new.store c.turn_held.new.host c.push_reserved-in-Ok.new.self.items c.turn_held.new.batch;
      held =
          held_one c.args.store.now c.turn_held.new.store c.args.body.now c.in-Ok.reply c.args.host.now c.turn_held.new.host open_group.replies.items
          c.push_reserved-in-Ok.new.self.items open_group.batch c.turn_held.new.batch said.turn
          (search rules) said.holds.going said.holds.carries said.calls said.holds.goes (search rules);
      full = search rules;
      settled = c.commit_group.ensures.settled;
    }))
