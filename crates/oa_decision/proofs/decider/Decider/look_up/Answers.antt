use Rattle.oa_decision.proofs.Named.{few_ids}
use Rattle.oa_decision.proofs.decider.Decider.look_up.Goals as goal

pub ids_answer-requires : goal.ids_answer-requires
ids_answer-requires c = rw c.in_ok-found.ensures (few_ids c.in_ok-interface.interface c.as_slice.result.now c.as_slice.ensures.few)
