use Rattle.std.proofs.Common.{refl}
use Rattle.oa_server.proofs.LockTurns.{apart_asks_none, plain_turn}
use Rattle.oa_server.proofs.locking.replace_for.Goals as goal

pub returns-clause-turn : goal.returns-clause-turn
returns-clause-turn c = λ client locks.
    plain_turn client c.args.host.now c.args.host.now c.replace.new.self c.args.body.now c.replace.result locks locks
    (λ change asks. apart_asks_none c.a_replacement_is_no_request.ensures c.refused_asks_nothing.ensures.stub c.args.body.now c.args.host.now change
    c.requires.kind asks) refl refl c.replace.ensures.turn
