use Rattle.oa_store.proofs.Whole.{whole_is_not_refused}
use Rattle.oa_store.proofs.laws.whole_is_not_refused.Goals as goal

pub returns : goal.returns
returns c = whole_is_not_refused
