use Rattle.std.proofs.Common.{◌≡◌, Option, sym, subst}
use Rattle.oa_idl.specs.promise.Trees.{TreeValue}
use Rattle.oa_sema.specs.promise.Libraries.{marked}
use Rattle.oa_sema.specs.Breaches.{RefusesBreach}
use Rattle.oa_sema.specs.promise.Breaches.{first_breach, tree_breach, text_breach}
use Rattle.oa_sema.specs.declared.fault.CheckError.{CheckError}
use Rattle.oa_sema.proofs.Passes.{refused, for_memory}
use Rattle.oa_sema.proofs.Passes.{breach_before, no_breach_before}
use Rattle.oa_typelib.proofs.Finds.{library_of_texts}
use Rattle.oa_typelib.proofs.library.check.Goals as goal

pub returns-in_err-names-clause-refuses : goal.returns-in_err-names-clause-refuses
returns-in_err-names-clause-refuses c =
    refused (first_breach c.args.tree) (λ (l : TreeValue). l ≡ marked c.args.tree) c.in_err-names.field-0.0 c.from_residual.result
    c.from_residual.ensures.0 c.from_residual.ensures.1
    (for_memory c.in_err-names.field-0.0 (breach_before (tree_breach c.args.tree) (text_breach c.args.tree) c.in_err-names.field-0.0) c.in_err-names.ensures)

pub returns-clause-refuses : goal.returns-clause-refuses
returns-clause-refuses c =
    subst (λ (o : Option CheckError). RefusesBreach o (λ (l : TreeValue). l ≡ marked c.args.tree) c.library_of.result)
    (sym (no_breach_before (tree_breach c.args.tree) (text_breach c.args.tree) c.in_ok-names.ensures.0)) c.library_of.ensures

pub returns-clause-library : goal.returns-clause-library
returns-clause-library c = library_of_texts c.args.tree c.library_of.result (returns-clause-refuses c)
