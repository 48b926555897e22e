use Rattle.oa_group_commit.proofs.Histories.{refused_groups_leave_no_trace}
use Rattle.oa_server.specs.promise.ServerMachine.{server_machine}
use Rattle.oa_server.proofs.laws.no_trace_of_groups.Goals as goal

pub returns : goal.returns
returns c = refused_groups_leave_no_trace server_machine
