use Rattle.oa_server.proofs.server.Server.serve_hex.Goals as goal

pub returns-clause-session : goal.returns-clause-session
returns-clause-session g c = c.session_with.ensures.session

pub returns-clause-memory : goal.returns-clause-memory
returns-clause-memory g c = c.session_with.ensures.memory
