-- As many DISPIDs are answered as there are names.
use Rattle.std.proofs.Common.{arith, Vec, Global, ◌≡◌, ℕ, ◌≤◌, List, [], ◌∷◌, suc, Option, Some, None, length, map, refl, ap}
use Rattle.std.proofs.lemmas.List.{length-map}
use Rattle.oa_idl.specs.promise.Values.{InterfaceValue}
use Rattle.oa_model.specs.promise.Limits.{max_names}
use Rattle.oa_sema.specs.promise.DeclarationValues.{DeclarationValue}
use Rattle.oa_sema.specs.promise.Declarations.{own_parameters}
use Rattle.oa_typelib.specs.promise.Members.{forms_named, main_form}
use Rattle.oa_typelib.specs.promise.Names.{ids_in, named_in, names_told, or_unknown, parameter_named}

ids_count : (d : Option DeclarationValue) (names : List (List ℕ)) → length (ids_in d names) ≡ length names
ids_count None names = length-map names (λ name. None)
ids_count (Some d) [] = refl
ids_count (Some d) (name ∷ names) = ap (λ n. suc n) (length-map names (parameter_named (own_parameters d)))

named_count : (i : InterfaceValue) (names : List (List ℕ)) → length (named_in i names) ≡ length names
named_count i [] = refl
named_count i (name ∷ names) = ids_count (main_form (forms_named name i)) (name ∷ names)

pub few_ids : (i : InterfaceValue) (names : List (Vec ℕ Global)) → length names ≤ max_names → length (names_told i (map (λ n. n.items) names)).ids ≤ max_names
few_ids i names few =
    let asked = map (λ (n : Vec ℕ Global). n.items) names in
    omega (arith, length-map (named_in i asked) or_unknown, named_count i asked, length-map names (λ (n : Vec ℕ Global). n.items), few)
