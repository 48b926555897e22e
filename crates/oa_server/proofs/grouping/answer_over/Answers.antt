use Rattle.std.proofs.Common.{rules}
use Rattle.oa_server.proofs.Answering.{checkpoint_failed, commit_failed, committed}
use Rattle.oa_server.proofs.Replacing.{answered_apart}
use Rattle.oa_server.proofs.grouping.answer_over.Goals as goal

pub returns-in_default-clause-answered : goal.returns-in_default-clause-answered
returns-in_default-clause-answered g c =
    checkpoint_failed {g = g.D.Disk} (λ d f honest since. g.met.D.Disk.only_now d f honest since) c.args.store.now c.turn_held.new.store
    (search rules) c.args.host.now c.turn_held.new.host c.args.body.now c.new-batch.result c.new-batch.ensures c.turn_held.ensures.holds.goes
    c.turn_held.ensures.holds.carries.library (search rules) c.turn_held.ensures.once c.turn_held.ensures.holds.carries.once
    c.turn_held.ensures.holds.carries.any_moment c.bare_reply-in_default.result (search rules) c.in_default.ensures.failed.turn
    c.in_default.ensures.failed.due c.in_default.ensures.holds.stops

pub returns-in_default-commit-clause-answered : goal.returns-in_default-commit-clause-answered
returns-in_default-commit-clause-answered g c =
    let said = c.in-Ok.ensures in
    let mid = c.turn_held.new.store in
    let new = c.commit.new.store in
    commit_failed {g = g.D.Disk} (λ d f honest since. g.met.D.Disk.only_now d f honest since) c.args.store.now mid
    (search rules) c.args.host.now c.turn_held.new.host c.args.body.now c.new-batch.result c.new-batch.ensures said.holds.goes said.holds.carries.library
    (search rules) c.turn_held.ensures.once said.holds.carries.once said.holds.carries.any_moment said.holds.going new c.in-Ok.reply c.turn_held.new.batch
    said.turn c.commit.ensures.goes (said.holds.carries.each said.holds.going)
    c.commit.ensures.commits said.calls (λ none. let quiet = c.commit.ensures.calls.quiet none in (quiet.0, quiet.2)) c.commit.ensures.calls.calls
    c.commit.ensures.calls.chosen c.bare_reply-in_default-commit.result (search rules) c.in_default-commit.ensures.stops.stops.0

pub returns-clause-answered : goal.returns-clause-answered
returns-clause-answered g c =
    let said = c.in-Ok.ensures in
    let mid = c.turn_held.new.store in
    let new = c.commit.new.store in
    let going = c.in-Ok-commit.ensures.stops.going in
    committed {g = g.D.Disk} (λ d f honest since. g.met.D.Disk.only_now d f honest since) c.args.store.now mid
    (search rules) c.args.host.now c.turn_held.new.host c.args.body.now c.new-batch.result c.new-batch.ensures said.holds.goes said.holds.carries.library
    (search rules) c.turn_held.ensures.once said.holds.carries.once said.holds.carries.any_moment said.holds.going new c.in-Ok.reply c.turn_held.new.batch
    said.turn c.commit.ensures.goes (said.holds.carries.each said.holds.going)
    c.commit.ensures.commits said.calls (λ none. let quiet = c.commit.ensures.calls.quiet none in (quiet.0, quiet.2)) c.commit.ensures.calls.calls
    c.commit.ensures.calls.chosen going

pub returns-then-is_replacement-clause-answered : goal.returns-then-is_replacement-clause-answered
returns-then-is_replacement-clause-answered g c =
    answered_apart {g = g.D.Disk} (λ d f honest since. g.met.D.Disk.only_now d f honest since) c.args.store.now c.replaced_over.new.store
    (search rules) c.args.host.now c.replaced_over.new.host c.args.body.now c.replaced_over.result (search rules) c.replaced_over.ensures.replaced
