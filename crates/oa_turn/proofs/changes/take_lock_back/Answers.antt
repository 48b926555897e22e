use Rattle.oa_decision.specs.declared.decision.LockChange.TheVariants.{Unlock}
use Rattle.oa_turn.proofs.Allowed.{relock_sound, relock_unseen}
use Rattle.oa_turn.proofs.changes.take_lock_back.Goals as goal

pub returns-in_default-clause-same : goal.returns-in_default-clause-same
returns-in_default-clause-same c = relock_unseen (Unlock c.args.name.now) c.args.table.now c.unlock.new.self c.in_default.ensures.0

pub returns-in_default-clause-sound : goal.returns-in_default-clause-sound
returns-in_default-clause-sound c bank sound = relock_sound bank (Unlock c.args.name.now) c.args.table.now c.unlock.new.self c.in_default.ensures.0 sound
