use Rattle.oa_formats.proofs.Conditions.{same_unlocked}
use Rattle.oa_formats.proofs.laws.value_images_hold_no_locks.Goals as goal

pub returns : goal.returns
returns c = same_unlocked
