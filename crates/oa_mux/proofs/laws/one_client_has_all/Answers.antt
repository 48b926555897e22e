use Rattle.oa_mux.proofs.Owners.{barrier}
use Rattle.oa_mux.proofs.laws.one_client_has_all.Goals as goal

pub returns : goal.returns
returns c = barrier
