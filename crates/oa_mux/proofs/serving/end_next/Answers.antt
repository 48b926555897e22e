use Rattle.oa_mux.proofs.Talks.{ends_next, ends_none}
use Rattle.oa_mux.proofs.serving.end_next.Goals as goal

pub returns-in-Some-last-clause-ends : goal.returns-in-Some-last-clause-ends
returns-in-Some-last-clause-ends g c = ends_next g.S.SharedResponder.barrier g.S.SharedResponder.turn c.answer_end.result c.in-Some.client c.in-Some.last
    c.in-Some-last.why _ _ _ _ _ _ c.in-Some-last.is c.in-Some.ensures c.answer_end.ensures.answers

pub returns-in-None-clause-ends : goal.returns-in-None-clause-ends
returns-in-None-clause-ends g c = ends_none g.S.SharedResponder.barrier g.S.SharedResponder.turn c.in-Some.client c.in-Some.last _ _ _ _ c.in-None.is
    c.in-Some.ensures c.requires.unbroken
