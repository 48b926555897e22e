use Rattle.std.proofs.Common.{◌∷◌, []}
use Rattle.oa_mux.specs.promise.Marks.{Flush, Of}
use Rattle.oa_mux.specs.promise.Readers.{Body}
use Rattle.oa_mux.proofs.Tellings.{loses_once, loses_then, told_once, told_then}
use Rattle.oa_mux.proofs.serving.answer_alone.Goals as goal

pub returns-in-Err-answer_client_alone-clause-answers : goal.returns-in-Err-answer_client_alone-clause-answers
returns-in-Err-answer_client_alone-clause-answers g c =
    loses_then g.S.SharedResponder.turn (Flush ∷ []) (Of c.args.client (Body c.args.body.now) ∷ []) [] _ _ _ _ _ _ c.in_default.ensures.now.0
    (loses_once g.S.SharedResponder.turn c.args.client _ _ _ _ _ _ _ (g.met.W.Sink.keeps _) c.in-Err-answer_client_alone.ensures.answers
    c.abandon_clients.ensures.gives_up)

pub returns-clause-answers : goal.returns-clause-answers
returns-clause-answers g c =
    told_then g.S.SharedResponder.turn (Flush ∷ []) (Of c.args.client (Body c.args.body.now) ∷ []) _ _ _ _ _ _ c.in_default.ensures.now.0
    (told_once g.S.SharedResponder.turn c.args.client _ _ _ _ _ _ c.in_default-answer_client_alone.ensures.answers)
