use Rattle.oa_linearizable.proofs.laws.each_client_is_served.Goals as goal

pub returns-clause-memory : goal.returns-clause-memory
returns-clause-memory g c disk old new asks tolds is run =
    let one = c.linearizable_in_memory.ensures disk old new asks tolds is run in (one.order, one.legal, one.each_client)

pub returns-clause-store : goal.returns-clause-store
returns-clause-store g c before era runs =
    let one = c.each_era_is_linearizable.ensures before era runs in (one.order, one.after, one.legal, one.each_client)
