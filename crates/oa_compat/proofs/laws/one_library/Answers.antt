use Rattle.std.proofs.Common.{ap, sym, ◌∙◌}
use Rattle.oa_sema.specs.promise.Libraries.{marked}
use Rattle.oa_compat.proofs.laws.one_library.Goals as goal

pub returns : goal.returns
returns c = λ text a b p q. p.says ∙ ap marked (c.one_tree.ensures text p.tree q.tree p.stands q.stands) ∙ sym q.says
