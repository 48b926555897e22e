use Rattle.oa_decision.specs.declared.decision.LockChange.TheVariants.{Unlock}
use Rattle.oa_turn.proofs.Allowed.{relock_sound, relock_unseen}
use Rattle.oa_turn.proofs.changes.unlock.Goals as goal

pub returns-clause-sound : goal.returns-clause-sound
returns-clause-sound c bank sound = relock_sound bank (Unlock c.args.name) c.args.table.now c.unlock.new.self c.in_ok-unlock.ensures.0 sound

pub returns-clause-same : goal.returns-clause-same
returns-clause-same c = relock_unseen (Unlock c.args.name) c.args.table.now c.unlock.new.self c.in_ok-unlock.ensures.0
