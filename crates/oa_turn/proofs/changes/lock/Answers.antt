use Rattle.oa_decision.specs.declared.decision.LockChange.TheVariants.{Lock}
use Rattle.oa_turn.proofs.Allowed.{relock_sound, relock_unseen}
use Rattle.oa_turn.proofs.changes.lock.Goals as goal

pub returns-clause-sound : goal.returns-clause-sound
returns-clause-sound c bank sound = relock_sound bank (Lock c.args.name) c.args.table.now c.lock.new.self c.in_ok-lock.ensures.0 sound

pub returns-clause-same : goal.returns-clause-same
returns-clause-same c = relock_unseen (Lock c.args.name) c.args.table.now c.lock.new.self c.in_ok-lock.ensures.0
