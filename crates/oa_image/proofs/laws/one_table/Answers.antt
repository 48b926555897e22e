use Rattle.oa_image.proofs.TablesWithImages.{one_table}
use Rattle.oa_image.proofs.laws.one_table.Goals as goal

pub returns : goal.returns
returns c = one_table
