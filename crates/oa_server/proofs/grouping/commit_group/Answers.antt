use Rattle.oa_server.proofs.Settled.{settled, taken_back}
use Rattle.oa_server.proofs.grouping.commit_group.Goals as goal

pub returns-in-Err-clause-settled : goal.returns-in-Err-clause-settled
returns-in-Err-clause-settled g c =
    let old = c.args.store.now in
    let new = c.commit.new.store in
    taken_back old new c.args.host.now c.args.open_group.now.replies.items c.args.open_group.now.batch c.commit.new.batch c.commit.ensures.goes
    c.commit.ensures.commits (λ none. let quiet = c.commit.ensures.calls.quiet none in (quiet.0, quiet.2)) c.commit.ensures.calls.calls
    c.commit.ensures.calls.chosen c.fail_replies.new.replies.items c.fail_replies.ensures.items c.in-Err.ensures.stops.stops.0

pub returns-in_default-clause-settled : goal.returns-in_default-clause-settled
returns-in_default-clause-settled g c =
    let old = c.args.store.now in
    let new = c.commit.new.store in
    let going = c.in_default.ensures.stops.going in
    settled old new c.args.host.now c.args.open_group.now.replies.items c.args.open_group.now.batch c.commit.new.batch c.commit.ensures.goes
    c.commit.ensures.commits (λ none. let quiet = c.commit.ensures.calls.quiet none in (quiet.0, quiet.2)) c.commit.ensures.calls.calls
    c.commit.ensures.calls.chosen c.commit.ensures.emptied going
