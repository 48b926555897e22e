use Rattle.oa_server.proofs.LockTurns.{plain_turn}
use Rattle.oa_server.proofs.locking.turn_for.Goals as goal

pub returns-in-None-clause-turn : goal.returns-in-None-clause-turn
returns-in-None-clause-turn c =
    plain_turn c.args.client c.args.host.now c.lock_turn.new.host c.ordinary_turn.new.self c.args.body.now c.ordinary_turn.result c.args.owners.now
    c.lock_turn.new.owners c.in-None.ensures.none c.in-None.ensures.same.0 c.in-None.ensures.same.1
    c.ordinary_turn.ensures.turn
