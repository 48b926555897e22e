use Rattle.std.proofs.Common.{[], refl}
use Rattle.oa_server.proofs.PutFrames.{puts_nothing}
use Rattle.oa_server.proofs.sharing.ServerStateSharedResponder.commit_now.Goals as goal

pub returns-in-Memory-clause-answers : goal.returns-in-Memory-clause-answers
returns-in-Memory-clause-answers g c = record { told = []; turned = rw c.in-Memory.is (refl, (refl, refl)); put = puts_nothing _ c.requires.unbroken }
