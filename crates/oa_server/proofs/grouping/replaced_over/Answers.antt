use Rattle.std.proofs.Common.{rules}
use Rattle.oa_server.proofs.Replacing.{in_doubt, replaced_alone}
use Rattle.oa_server.proofs.grouping.replaced_over.Goals as goal

pub returns-in-Ok-clause-replaced : goal.returns-in-Ok-clause-replaced
returns-in-Ok-clause-replaced g c =
    let said = c.replace_over.ensures in
    replaced_alone {g = g.D.Disk} c.args.store.now c.replace_over.new.store c.args.host.now c.replace_over.new.host c.args.body.now c.requires.kind
    said.replaced.same said.replaced.any_moment said.replaced.each said.replaced.calls said.replaced.once said.replaced.goes c.in-Ok.reply c.in-Ok.ensures.turn
    c.in-Ok.ensures.going c.in-Ok.ensures.quiet

pub returns-in-Err-clause-replaced : goal.returns-in-Err-clause-replaced
returns-in-Err-clause-replaced g c =
    let said = c.replace_over.ensures in
    let due = c.in-Err.ensures.failed in
    in_doubt {g = g.D.Disk} c.args.store.now c.replace_over.new.store c.args.host.now c.replace_over.new.host c.args.body.now c.requires.kind said.replaced.same
    said.replaced.any_moment said.replaced.each said.replaced.calls said.replaced.once said.replaced.goes due.0 due.1 due.2 c.in-Err.ensures.stops
    c.bare_reply.result (search rules)
