use Rattle.oa_mux.proofs.Talks.{end_came, lost_as, none_came, now_came, told_as}
use Rattle.oa_mux.proofs.serving.answer.Goals as goal

pub returns-in-Nothing-clause-answers : goal.returns-in-Nothing-clause-answers
returns-in-Nothing-clause-answers g c = none_came g.S.SharedResponder.barrier g.S.SharedResponder.turn c.args.arrival _ _ c.in-Nothing.is c.requires.unbroken

pub returns-in-Ok-clause-answers : goal.returns-in-Ok-clause-answers
returns-in-Ok-clause-answers g c = told_as g.S.SharedResponder.barrier g.S.SharedResponder.turn _ _ _ _ _ _
    (end_came g.S.SharedResponder.barrier g.S.SharedResponder.turn c.args.arrival c.in-Ends.client c.in-Ends.why c.in-Ends.is) c.in-Ok.ensures.answers

pub returns-in-Err-clause-answers : goal.returns-in-Err-clause-answers
returns-in-Err-clause-answers g c = lost_as g.S.SharedResponder.barrier g.S.SharedResponder.turn _ _ _ _ _ _
    (end_came g.S.SharedResponder.barrier g.S.SharedResponder.turn c.args.arrival c.in-Ends.client c.in-Ends.why c.in-Ends.is) c.in-Err.ensures.answers

pub returns-in-Ok-make_now-clause-answers : goal.returns-in-Ok-make_now-clause-answers
returns-in-Ok-make_now-clause-answers g c = told_as g.S.SharedResponder.barrier g.S.SharedResponder.turn _ _ _ _ _ _
    (now_came g.S.SharedResponder.barrier g.S.SharedResponder.turn c.args.arrival c.in-Flush.is) c.in-Ok-make_now.ensures.now.0
