use Rattle.oa_group_commit.proofs.Histories.{crash_histories_keep_groups}
use Rattle.oa_server.specs.promise.ServerMachine.{server_machine}
use Rattle.oa_server.proofs.laws.headline.Goals as goal

pub returns : goal.returns
returns g c = crash_histories_keep_groups server_machine g.D.Disk
