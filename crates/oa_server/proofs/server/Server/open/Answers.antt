use Rattle.oa_server.proofs.server.Server.open.Goals as goal

pub returns-clause-opened : goal.returns-clause-opened
returns-clause-opened g c = rw (c.over_store.ensures.store, c.over_store.ensures.state) c.in_ok-store.ensures.opened
