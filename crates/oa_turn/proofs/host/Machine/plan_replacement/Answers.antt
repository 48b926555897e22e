use Rattle.std.proofs.Common.{rules}
use Rattle.oa_turn.proofs.Replacing.{loss_refused}
use Rattle.oa_turn.proofs.host.Machine.plan_replacement.Goals as goal

pub returns-in-Some : goal.returns-in-Some
returns-in-Some c = loss_refused c.args.self.now c.args.body.now c.refuse_loss.result c.in-Ok.library c.in-Some.lost c.in-Ok.ensures (search rules)
    (search rules)
