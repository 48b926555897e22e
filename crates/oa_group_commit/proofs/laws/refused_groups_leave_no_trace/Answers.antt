use Rattle.oa_group_commit.proofs.Histories.{refused_groups_leave_no_trace}
use Rattle.oa_group_commit.specs.Simple.{toy_machine}
use Rattle.oa_group_commit.proofs.laws.refused_groups_leave_no_trace.Goals as goal

pub returns : goal.returns
returns c = refused_groups_leave_no_trace toy_machine
