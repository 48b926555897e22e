use Rattle.std.proofs.Common.{◌∙◌}
use Rattle.oa_cells.proofs.Full.{all_read}
use Rattle.oa_cells.proofs.cells.Cells.as_slice.Goals as goal

pub returns : goal.returns
returns g c = all_read c.self.inside.row c.self.inside.len c.first.result.now c.self.invariant.1 c.first.ensures ∙ c.self.view_is
