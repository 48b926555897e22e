use Rattle.std.proofs.Common.{rules}
use Rattle.oa_mux.proofs.Talks.{parted_alone, parted_together}
use Rattle.oa_mux.proofs.Tellings.{loses_once, told_once}
use Rattle.oa_mux.proofs.serving.answer_body.Goals as goal

pub returns-then-is_alone-clause-answers : goal.returns-then-is_alone-clause-answers
returns-then-is_alone-clause-answers g c =
    rw (parted_alone g.S.SharedResponder.barrier c.args.client c.args.body.now (search rules)) c.answer_alone.ensures.answers

pub returns-in-Err-clause-answers : goal.returns-in-Err-clause-answers
returns-in-Err-clause-answers g c =
    rw (parted_together g.S.SharedResponder.barrier c.args.client c.args.body.now (search rules))
    (loses_once g.S.SharedResponder.turn c.args.client _ _ _ _ _ _ _ (g.met.W.Sink.keeps _) c.in-Err.ensures.answers c.abandon_clients.ensures.gives_up)

pub returns-clause-answers : goal.returns-clause-answers
returns-clause-answers g c =
    rw (parted_together g.S.SharedResponder.barrier c.args.client c.args.body.now (search rules))
    (told_once g.S.SharedResponder.turn c.args.client _ _ _ _ _ _ c.in_default.ensures.answers)
