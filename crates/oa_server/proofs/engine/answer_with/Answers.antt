use Rattle.std.proofs.Common.{refl}
use Rattle.oa_server.proofs.engine.answer_with.Goals as goal

pub returns-in-Memory-clause-answers : goal.returns-in-Memory-clause-answers
returns-in-Memory-clause-answers g c = rw c.in-Memory.is (refl, c.turn.ensures.turn)
