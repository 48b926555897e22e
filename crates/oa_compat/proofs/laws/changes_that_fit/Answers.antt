use Rattle.std.proofs.Common.{refl}
use Rattle.oa_compat.proofs.Kept.{event_kept, lock_kept, unlock_kept, unlocked_fits}
use Rattle.oa_compat.proofs.laws.changes_that_fit.Goals as goal

pub returns : goal.returns
returns c = record {
  first = λ library. refl;
  event = λ library. event_kept library c.equal_is_same.ensures;
  lock = lock_kept;
  unlock = unlock_kept;
  locks = unlocked_fits;
}
