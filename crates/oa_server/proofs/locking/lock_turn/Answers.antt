use Rattle.std.proofs.Common.{rules, Bool, true, false, refl}
use Rattle.oa_server.proofs.LockTurns.{is_starved, not_apart}
use Rattle.oa_server.proofs.locking.lock_turn.Goals as goal

pub returns-in-Err-clause-some : goal.returns-in-Err-clause-some
returns-in-Err-clause-some c = is_starved c.args.client c.args.host.now c.args.body.now c.bare_reply.result c.args.owners.now
    (not_apart c.args.body.now (λ kind. search (rules, kind))) c.in-Err.ensures.finds c.bare_reply.ensures
