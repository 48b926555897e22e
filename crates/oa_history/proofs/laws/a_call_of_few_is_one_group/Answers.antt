use Rattle.oa_server.specs.promise.ServerMachine.{server_machine}
use Rattle.oa_history.proofs.Few.{few_are_one}
use Rattle.oa_history.proofs.laws.a_call_of_few_is_one_group.Goals as goal

pub returns : goal.returns
returns c = few_are_one server_machine
