use Rattle.oa_server.proofs.server.Server.run.Goals as goal

pub returns-clause-serves : goal.returns-clause-serves
returns-clause-serves g c = c.run_with.ensures.serves

pub returns-clause-memory : goal.returns-clause-memory
returns-clause-memory g c = c.run_with.ensures.memory
