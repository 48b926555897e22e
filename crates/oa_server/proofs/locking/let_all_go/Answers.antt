use Rattle.std.proofs.Common.{ap, ◌∙◌}
use Rattle.oa_server.specs.SharedMachine.{close_keeps}
use Rattle.oa_server.specs.promise.SharedMachine.{shared}
use Rattle.oa_decision.specs.promise.States.{State}
use Rattle.oa_server.proofs.locking.let_all_go.Goals as goal

pub returns-clause-bank : goal.returns-clause-bank
returns-clause-bank c = ap (λ (s : State). s.bank) c.take_back_each.ensures ∙ (close_keeps (shared c.args.host.now c.args.owners.now)).0
