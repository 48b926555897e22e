use Rattle.std.proofs.Common.{sym, ap, ◌∙◌}
use Rattle.oa_sema.specs.promise.DeclarationValues.{DeclarationValue}
use Rattle.oa_sema.specs.promise.Declarations.{is_put}
use Rattle.oa_sema.proofs.Parameters.{own_of, all_of}
use Rattle.oa_sema.proofs.declaration.Declaration.own_values.Goals as goal

pub returns-then-is_put : goal.returns-then-is_put
returns-then-is_put c = own_of c.saturating_sub.result c.args.defaults.now c.args.self.now c.requires c.saturating_sub.ensures
    (ap (λ (d : DeclarationValue). is_put d.kind) (sym c.self.view_is) ∙ sym c.is_put.ensures ∙ c.if-is_put.true)

pub returns-else-is_put : goal.returns-else-is_put
returns-else-is_put c = all_of c.args.defaults.now c.args.self.now c.requires
    (ap (λ (d : DeclarationValue). is_put d.kind) (sym c.self.view_is) ∙ sym c.is_put.ensures ∙ c.if-is_put.false)
