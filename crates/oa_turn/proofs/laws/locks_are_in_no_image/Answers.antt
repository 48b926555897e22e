use Rattle.oa_turn.proofs.Relocked.{lock_stays, unlock_stays}
use Rattle.oa_turn.proofs.laws.locks_are_in_no_image.Goals as goal

pub returns : goal.returns
returns c = record { lock = lock_stays; unlock = unlock_stays }
