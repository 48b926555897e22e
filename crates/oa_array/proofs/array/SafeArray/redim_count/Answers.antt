use Rattle.std.proofs.Common.{ap, ◌∙◌}
use Rattle.oa_array.specs.Heads.{bounds_in}
use Rattle.oa_array.proofs.Redim.{size_behind}
use Rattle.oa_array.proofs.array.SafeArray.redim_count.Goals as goal

pub returns : goal.returns
returns g c =
    let same = c.as_slice.ensures ∙ ap (λ h. bounds_in h.bounds) c.deref.ensures in
    rw (← c.self.view_is) (size_behind c.size.result c.args.bound c.as_slice.result.now (bounds_in c.self.inside.head.value.bounds) same c.size.ensures)
