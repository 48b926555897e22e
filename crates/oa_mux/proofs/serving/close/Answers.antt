use Rattle.oa_mux.proofs.Talks.{closes_lost, closes_well}
use Rattle.oa_mux.proofs.serving.close.Goals as goal

pub returns-in-Ok-clause-closes : goal.returns-in-Ok-clause-closes
returns-in-Ok-clause-closes g c = closes_well g.S.SharedResponder.barrier g.S.SharedResponder.turn c.args.why _ _ _ _ _ _ _ c.in_default.ensures.ends
    c.in-Ok.ensures.now

pub returns-in-Err-make_now-clause-closes : goal.returns-in-Err-make_now-clause-closes
returns-in-Err-make_now-clause-closes g c = closes_lost g.S.SharedResponder.barrier g.S.SharedResponder.turn c.args.why _ _ _ _ _ _ _ c.in_default.ensures.ends
    c.in-Err-make_now.ensures.now
