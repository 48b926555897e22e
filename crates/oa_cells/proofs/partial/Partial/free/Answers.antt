use Rattle.std.proofs.Common.{ap, ◌∙◌}
use Rattle.oa_cells.proofs.Laid.{row_of_empty}
use Rattle.oa_cells.proofs.partial.Partial.free.Goals as goal

pub free-requires : goal.free-requires
free-requires g c =
    let i = c.self.inside in let inv = c.self.invariant in let seen = c.self.view_is in
    row_of_empty i.row i.from i.to i.len inv.count inv.fits inv.shape (ap (λ w. w.items) seen ∙ c.requires)
