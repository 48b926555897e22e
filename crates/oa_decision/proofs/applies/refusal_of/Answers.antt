use Rattle.oa_decision.proofs.applies.refusal_of.Goals as goal

pub returns-in-Create : goal.returns-in-Create
returns-in-Create c = rw c.in-Create.is (c.of_create.ensures c.in-Create.class)

pub returns-in-Put : goal.returns-in-Put
returns-in-Put c = rw c.in-Put.is (c.of_put.ensures c.in-Put.value)
