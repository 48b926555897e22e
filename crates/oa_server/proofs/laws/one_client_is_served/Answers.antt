use Rattle.oa_server.proofs.OneClientAlone.{one_in_memory, one_over_store}
use Rattle.oa_server.proofs.laws.one_client_is_served.Goals as goal

pub returns-clause-memory : goal.returns-clause-memory
returns-clause-memory g c = one_in_memory c.one_request.ensures c.a_replacement_is_no_request.ensures c.refused_asks_nothing.ensures.stub {g = g.D.Disk}

pub returns-clause-store : goal.returns-clause-store
returns-clause-store g c = one_over_store c.one_request.ensures c.a_replacement_is_no_request.ensures c.refused_asks_nothing.ensures.stub {g = g.D.Disk}
