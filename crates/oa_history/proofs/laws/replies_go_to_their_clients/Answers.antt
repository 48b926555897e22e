use Rattle.oa_history.proofs.Addressed.{replies_go_to_clients}
use Rattle.oa_history.proofs.laws.replies_go_to_their_clients.Goals as goal

pub returns : goal.returns
returns g c = replies_go_to_clients g.D.Disk
