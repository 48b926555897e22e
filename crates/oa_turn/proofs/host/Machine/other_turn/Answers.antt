use Rattle.oa_turn.proofs.Releases.{releases}
use Rattle.oa_turn.proofs.host.Machine.other_turn.Goals as goal

pub returns-in-Change-clause-released : goal.returns-in-Change-clause-released
returns-in-Change-clause-released c = λ number of code.
    let is = c.in-Change.ensures.drafts.0 in
    c.make.ensures.released number (releases c.args.body.now number of c.one_request.ensures c.args.self.now is.request is.asked _ _ is.decided_is) code

pub returns-in-Change-clause-turn : goal.returns-in-Change-clause-turn
returns-in-Change-clause-turn c =
    rw (c.in-Change.ensures.drafts.2) at (c.make.ensures.turn c.args.body.now (rw c.in-Change.ensures.drafts.2 c.in-Change.ensures.drafts.0))
