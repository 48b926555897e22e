use Rattle.oa_store.proofs.Whole.{brought_none, brought_new, brought_damaged}
use Rattle.oa_store.proofs.laws.what_can_be_brought_is_not_refused.Goals as goal

pub returns-clause-none : goal.returns-clause-none
returns-clause-none c = brought_none

pub returns-clause-new : goal.returns-clause-new
returns-clause-new c = brought_new

pub returns-clause-damaged : goal.returns-clause-damaged
returns-clause-damaged c = brought_damaged
