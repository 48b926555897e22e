use Rattle.oa_store.proofs.OneStore.{one_store}
use Rattle.oa_store.proofs.laws.one_store.Goals as goal

pub returns : goal.returns
returns c = one_store
