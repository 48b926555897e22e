use Rattle.std.proofs.Common.{ℕ, List, sym, ap, subst, ◌∙◌}
use Rattle.oa_printer.specs.promise.Canonical.{canonical}
use Rattle.oa_idl.specs.promise.IsTree.{IsTree}
use Rattle.oa_typelib.proofs.library.Library.text.Goals as goal

pub returns-clause-text : goal.returns-clause-text
returns-clause-text c = c.as_slice.ensures.value ∙ c.self.invariant.0.3 ∙ ap canonical c.self.view_is

pub returns-clause-read : goal.returns-clause-read
returns-clause-read c = subst (λ (bs : List ℕ). IsTree bs c.args.self.now) (sym c.as_slice.ensures.value)
    (subst (IsTree c.self.inside.text.items) c.self.view_is c.self.invariant.2)
