use Rattle.oa_variant.proofs.Equal.{equal}
use Rattle.oa_variant.proofs.laws.equal_is_same_but_for_locks.Goals as goal

pub returns : goal.returns
returns c = equal
