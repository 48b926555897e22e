use Rattle.oa_server.proofs.GroupsAsOneRun.{answered_run}
use Rattle.oa_server.proofs.laws.groups_are_one_run.Goals as goal

pub returns : goal.returns
returns g c = answered_run {g = g.D.Disk}
