use Rattle.oa_history.proofs.history.stepped.Goals as goal

pub returns-in-CrashedSession-clause-stepped : goal.returns-in-CrashedSession-clause-stepped
returns-in-CrashedSession-clause-stepped c = rw c.in-CrashedSession.is c.stopped.ensures.stopped
