use Rattle.std.proofs.Common.{rules}
use Rattle.oa_turn.proofs.Allowed.{stays_sound}
use Rattle.oa_turn.proofs.changes.apply.Goals as goal

pub returns-in-Ok-clause-sound : goal.returns-in-Ok-clause-sound
returns-in-Ok-clause-sound c bank allowed sound = stays_sound bank c.args.event c.args.table.now c.overwrite.new.self sound allowed
    (search (rules, c.in-Ok.ensures.done))
