use Rattle.oa_server.proofs.LockTurns.{never_planned}
use Rattle.oa_server.proofs.locking.relock.Goals as goal

pub returns-clause-turn : goal.returns-clause-turn
returns-clause-turn c =
    λ change asks. absurd (never_planned c.one_request.ensures c.args.host.now c.args.body.now change c.in-Change.field-0 asks c.in-Change.ensures.plans.0)
