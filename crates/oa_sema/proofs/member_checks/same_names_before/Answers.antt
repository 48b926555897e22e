use Rattle.std.proofs.Common.{◌≡◌, ℕ, List, [], Option, IfOk, subst, sym, ap, ◌∙◌, Vec, Global}
use Rattle.oa_model.specs.promise.Folding.{folded_name}
use Rattle.oa_sema.specs.promise.DeclarationValues.{DeclarationValue}
use Rattle.oa_sema.specs.promise.Libraries.{same}
use Rattle.oa_sema.specs.Repeats.{places_before}
use Rattle.oa_sema.proofs.Walks.{places-map}
use Rattle.oa_sema.proofs.member_checks.same_names_before.Goals as goal

pub returns : goal.returns
returns c =
    subst (λ (places : List (Option ℕ)). IfOk c.earlier.result (λ v. v.items ≡ places))
    (sym (places-map (λ (k : Vec ℕ Global). k.items) same [] c.in_ok-keys.keys.items) ∙ ap (places_before same []) c.in_ok-keys.ensures
    ∙ places-map (λ (d : DeclarationValue). folded_name d.name) same [] c.args.all.now)
    c.earlier.ensures
