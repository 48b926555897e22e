use Rattle.std.proofs.Common.{◌≡◌, ℕ, List, [], Option, IfOk, subst, ap, ◌∙◌}
use Rattle.std.specs.Ordering.{int_eq}
use Rattle.oa_sema.specs.promise.DeclarationValues.{DeclarationValue}
use Rattle.oa_sema.specs.Repeats.{places_before}
use Rattle.oa_sema.proofs.Walks.{places-map}
use Rattle.oa_sema.proofs.member_checks.same_ids_before.Goals as goal

pub returns : goal.returns
returns c =
    subst (λ (places : List (Option ℕ)). IfOk c.earlier.result (λ v. v.items ≡ places))
    (ap (places_before int_eq []) c.in_ok-keys.ensures ∙ places-map (λ (d : DeclarationValue). d.id) int_eq [] c.args.all.now)
    c.earlier.ensures
