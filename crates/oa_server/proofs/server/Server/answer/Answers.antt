use Rattle.oa_server.proofs.server.Server.answer.Goals as goal

pub returns-clause-answers : goal.returns-clause-answers
returns-clause-answers g c = c.answer_with.ensures.answers

pub returns-clause-memory : goal.returns-clause-memory
returns-clause-memory g c = c.answer_with.ensures.memory
