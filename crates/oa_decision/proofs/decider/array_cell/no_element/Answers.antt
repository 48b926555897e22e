use Rattle.oa_decision.proofs.Reached.{none_typed}
use Rattle.oa_decision.proofs.decider.array_cell.no_element.Goals as goal

pub returns-in-Array-clause-typed : goal.returns-in-Array-clause-typed
returns-in-Array-clause-typed c = rw (c.in-Array.is, c.of-in-Array.ensures, c.code-in-Array.ensures) (none_typed c.in-Array.field-0)
