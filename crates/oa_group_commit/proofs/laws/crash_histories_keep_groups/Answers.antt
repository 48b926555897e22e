use Rattle.oa_group_commit.proofs.Histories.{crash_histories_keep_groups}
use Rattle.oa_group_commit.specs.Simple.{toy_machine}
use Rattle.oa_group_commit.proofs.laws.crash_histories_keep_groups.Goals as goal

pub returns : goal.returns
returns g c = crash_histories_keep_groups toy_machine g.D.Disk
