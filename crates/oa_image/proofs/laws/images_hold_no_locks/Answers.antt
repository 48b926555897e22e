use Rattle.oa_image.proofs.TablesWithImages.{same_table}
use Rattle.oa_image.proofs.laws.images_hold_no_locks.Goals as goal

pub returns : goal.returns
returns c = same_table
