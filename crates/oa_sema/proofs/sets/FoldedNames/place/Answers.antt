use Rattle.std.proofs.Common.{ℕ, sym, ◌∙◌, Vec, Global}
use Rattle.oa_sema.specs.promise.Libraries.{same}
use Rattle.oa_sema.proofs.Lists.{position-map}
use Rattle.oa_sema.proofs.sets.FoldedNames.place.Goals as goal

pub returns : goal.returns
returns c =
    rw (← c.self.view_is)
    (c.get_index_of.ensures.index ∙ sym (position-map (λ (k : Vec ℕ Global). k.items) (same c.args.name.now) c.self.inside.keys.keys))
