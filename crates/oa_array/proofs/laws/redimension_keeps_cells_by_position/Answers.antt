use Rattle.oa_array.proofs.Cells.{redim_kept, redim_fresh}
use Rattle.oa_array.proofs.laws.redimension_keeps_cells_by_position.Goals as goal

pub returns : goal.returns
returns g c = record { kept = redim_kept; fresh = redim_fresh }
