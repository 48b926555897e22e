use Rattle.oa_mux.proofs.Tellings.{loses_once, told_once}
use Rattle.oa_mux.proofs.serving.answer_end.Goals as goal

pub returns-in-Err-clause-answers : goal.returns-in-Err-clause-answers
returns-in-Err-clause-answers g c = loses_once g.S.SharedResponder.turn c.args.client _ _ _ _ _ _ _
    (g.met.W.Sink.keeps _) c.in-Err.ensures.answers c.abandon_clients.ensures.gives_up

pub returns-clause-answers : goal.returns-clause-answers
returns-clause-answers g c = told_once g.S.SharedResponder.turn c.args.client _ _ _ _ _ _ c.in_default.ensures.answers
