use Rattle.std.proofs.Common.{ℕ, List, map, ap, ◌∙◌, Vec, Global}
use Rattle.oa_sema.specs.promise.Libraries.{same}
use Rattle.oa_sema.proofs.Lists.{list_any-map, insert_key-map}
use Rattle.oa_sema.proofs.sets.FoldedNames.insert.Goals as goal

pub returns-clause-added : goal.returns-clause-added
returns-clause-added c = rw (← c.self.view_is) (rw list_any-map (c.in_ok-insert.ensures.added))

pub returns-clause-keys : goal.returns-clause-keys
returns-clause-keys c =
    rw (← c.self.view_is)
    (ap (λ (ks : List (Vec ℕ Global)). map (λ k. k.items) ks) c.in_ok-insert.ensures.keys
    ∙ insert_key-map (λ (k : Vec ℕ Global). k.items) same c.args.name c.self.inside.keys.keys)
