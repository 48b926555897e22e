use Rattle.oa_array.proofs.Cells.{put_one}
use Rattle.oa_array.proofs.laws.put_changes_one_cell.Goals as goal

pub returns : goal.returns
returns g c = put_one
