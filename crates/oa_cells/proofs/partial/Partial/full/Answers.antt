use Rattle.std.proofs.Common.{ap, ◌∙◌, map}
use Rattle.std.specs.Prelude.{Some}
use Rattle.oa_cells.proofs.Laid.{row_of_full}
use Rattle.oa_cells.proofs.partial.Partial.full.Goals as goal

pub returns : goal.returns
returns g c =
    let i = c.self.inside in let inv = c.self.invariant in let seen = c.self.view_is in
    row_of_full i.row i.from i.to i.len inv.count inv.fits inv.shape (ap (λ w. w.before) seen ∙ c.requires.0) (ap (λ w. w.after) seen ∙ c.requires.1)
    ∙ ap (λ w. map Some w.items) seen
