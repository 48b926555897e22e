use Rattle.std.proofs.Common.{◌≡◌, ℕ, List, map, IfOk, Bor, ap, subst, ◌∙◌}
use Rattle.oa_model.specs.promise.Folding.{folded_name}
use Rattle.oa_sema.specs.promise.DeclarationValues.{DeclarationValue}
use Rattle.oa_typelib.specs.Groups.{keys_with_places}
use Rattle.oa_sema.specs.promise.Libraries.{same}
use Rattle.oa_typelib.proofs.Looks.{names_folded}
use Rattle.oa_typelib.proofs.members.by_name.Goals as goal

pub returns : goal.returns
returns c =
    let names = ap (map (λ (n : Bor (List ℕ)). folded_name n.now)) c.as_slice.ensures.value
    ∙ names_folded (λ (d : DeclarationValue). d.name) c.in_ok-names.names.items c.args.declarations.now c.in_ok-names.ensures in
    subst (λ (ks : List (List ℕ)). IfOk c.places_by_name.result (λ g. g ≡ keys_with_places same ks)) names c.places_by_name.ensures
