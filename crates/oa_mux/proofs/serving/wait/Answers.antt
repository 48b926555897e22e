use Rattle.oa_mux.proofs.Talks.{goes_waited, loses_before, over_fault, over_waited}
use Rattle.oa_mux.proofs.Tellings.{loses_quiet}
use Rattle.oa_mux.proofs.serving.wait.Goals as goal

pub returns-in-Err-clause-progresses : goal.returns-in-Err-clause-progresses
returns-in-Err-clause-progresses g c = loses_before g.S.SharedResponder.barrier g.S.SharedResponder.turn _ _ _ _ _ _ c.requires.unbroken.reader
    (loses_quiet g.S.SharedResponder.turn _ _ _ _ (g.met.W.Sink.keeps _) c.in-Err.ensures c.abandon_clients.ensures.gives_up)

pub returns-in-Some-clause-progresses : goal.returns-in-Some-clause-progresses
returns-in-Some-clause-progresses g c = goes_waited g.S.SharedResponder.barrier g.S.SharedResponder.turn c.more.result _ _ _ _ _ _ _ _ c.requires.none
    c.in-Some.is c.in_default.ensures.0 c.in_default.ensures.1 c.more.ensures

pub returns-in-End-clause-progresses : goal.returns-in-End-clause-progresses
returns-in-End-clause-progresses g c = over_waited g.S.SharedResponder.barrier g.S.SharedResponder.turn _ _ _ _ _ _ _ _ _ c.requires.none c.end_of_input.ensures
    c.in_default.ensures.0 c.in-End.ensures

pub returns-in-Fault-clause-progresses : goal.returns-in-Fault-clause-progresses
returns-in-Fault-clause-progresses g c = over_fault g.S.SharedResponder.barrier g.S.SharedResponder.turn _ _ _ _ _ _ _ _ c.requires.none c.in_default.ensures.0
    c.in-Fault.ensures
