use Rattle.oa_mux.proofs.Talks.{none_at, none_end}
use Rattle.oa_mux.proofs.serving.end_clients.Goals as goal

pub returns-in-Memory-clause-ends : goal.returns-in-Memory-clause-ends
returns-in-Memory-clause-ends g c = none_end g.S.SharedResponder.barrier g.S.SharedResponder.turn c.args.why _ _ _
    (none_at g.S.SharedResponder.barrier g.S.SharedResponder.turn c.args.why _ c.in-Memory.is) c.requires.unbroken
