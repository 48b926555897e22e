use Rattle.oa_linearizable.proofs.Mutexes.{mutex}
use Rattle.oa_linearizable.proofs.laws.lock_is_a_mutex.Goals as goal

pub returns : goal.returns
returns c = mutex c.one_request.ensures c.a_replacement_is_no_request.ensures c.refused_asks_nothing.ensures.stub c.locks_have_owners.ensures.client
