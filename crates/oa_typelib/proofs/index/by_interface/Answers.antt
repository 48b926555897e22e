use Rattle.std.proofs.Common.{◌≡◌, ℕ, List, map, IfOk, Bor, ap, subst, ◌∙◌}
use Rattle.oa_model.specs.promise.Folding.{folded_name}
use Rattle.oa_idl.specs.promise.Values.{InterfaceValue}
use Rattle.oa_typelib.specs.promise.Descriptions.{interfaces_of}
use Rattle.oa_typelib.specs.Groups.{keys_with_places}
use Rattle.oa_sema.specs.promise.Libraries.{same}
use Rattle.oa_typelib.proofs.Looks.{names_folded}
use Rattle.oa_typelib.proofs.index.by_interface.Goals as goal

pub returns : goal.returns
returns c =
    let names = ap (map (λ (n : Bor (List ℕ)). folded_name n.now)) c.as_slice.ensures.value
    ∙ names_folded (λ (i : InterfaceValue). i.name) c.in_ok-names.names.items (interfaces_of c.args.items.now) c.in_ok-names.ensures in
    subst (λ (ks : List (List ℕ)). IfOk c.places_by_name.result (λ g. g ≡ keys_with_places same ks)) names c.places_by_name.ensures
