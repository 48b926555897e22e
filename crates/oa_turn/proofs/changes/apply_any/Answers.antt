use Rattle.oa_turn.proofs.Allowed.{stays_sound}
use Rattle.oa_turn.proofs.changes.apply_any.Goals as goal

pub returns-clause-sound : goal.returns-clause-sound
returns-clause-sound c bank allowed sound = stays_sound bank c.args.event c.args.table.now c.apply.new.self sound allowed c.in_default.ensures.does
