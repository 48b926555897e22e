use Rattle.oa_gateway.proofs.Disconnected.{goes}
use Rattle.oa_gateway.proofs.laws.stalled_clients_go.Goals as goal

pub returns : goal.returns
returns c = goes
