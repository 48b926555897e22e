use Rattle.oa_server.proofs.serving.session_with.Goals as goal

pub returns-clause-session : goal.returns-clause-session
returns-clause-session g c = rw c.in_ok-open_group.ensures.size at c.talk-served.ensures.session

pub returns-clause-memory : goal.returns-clause-memory
returns-clause-memory g c = c.talk-served.ensures.memory
