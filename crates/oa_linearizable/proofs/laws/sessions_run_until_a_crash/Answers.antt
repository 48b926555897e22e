use Rattle.oa_linearizable.proofs.Sessions.{sessions_run}
use Rattle.oa_linearizable.proofs.laws.sessions_run_until_a_crash.Goals as goal

pub returns : goal.returns
returns g c = sessions_run {g = g.D.Disk}
