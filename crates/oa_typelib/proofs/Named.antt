-- The DISPIDs of names.
use Rattle.std.proofs.Common.{◌≡◌, ℕ, ℤ, List, [], ◌∷◌, ◌++◌, map, Option, Some, slice_get, Vec, Global, refl, sym, ap, ◌∙◌}
use Rattle.oa_idl.specs.promise.Values.{InterfaceValue}
use Rattle.oa_idl.specs.declared.parts.Parameter.{Parameter}
use Rattle.oa_sema.specs.promise.DeclarationValues.{DeclarationValue}
use Rattle.oa_sema.specs.promise.Declarations.{own_parameters}
use Rattle.oa_typelib.specs.promise.Members.{main_form, forms_named}
use Rattle.oa_typelib.specs.promise.Names.{parameter_named, ids_in, named_in}

pub map_twice : {A B C : Type 0} (f : A → B) (g : B → C) (xs : List A) → map g (map f xs) ≡ map (λ x. g (f x)) xs
map_twice f g [] = refl
map_twice f g (x ∷ xs) = ap (λ ys. g (f x) ∷ ys) (map_twice f g xs)

-- of a member and its parameters
pub ids_told : (member : DeclarationValue) (names : List (Vec ℕ Global)) (first : Vec ℕ Global) (others : List (Vec ℕ Global)) (ids pushed : List (Option ℤ))
    (id : ℤ) (parameters : List Parameter) → names ≡ first ∷ others → ids ≡ pushed ++ map (λ (n : Vec ℕ Global). parameter_named parameters n.items) others
    → pushed ≡ Some id ∷ [] → id ≡ member.id → parameters ≡ own_parameters member → ids ≡ ids_in (Some member) (map (λ (n : Vec ℕ Global). n.items) names)
ids_told member names first others ids pushed id parameters is told push same own = told
    ∙ rw (push, same, own, is) (ap (λ os. Some member.id ∷ os)
    (sym (map_twice (λ (n : Vec ℕ Global). n.items) (parameter_named (own_parameters member)) others)))

-- of an interface, by its member
pub by_member : (i : InterfaceValue) (names : List (Vec ℕ Global)) (first : Vec ℕ Global) (main : Option DeclarationValue) → Some first ≡ slice_get names 0
    → main ≡ main_form (forms_named first.items i) → ids_in main (map (λ (n : Vec ℕ Global). n.items) names) ≡ named_in i
    (map (λ (n : Vec ℕ Global). n.items) names)
by_member i [] first main is m = absurd (cc)
by_member i (n ∷ ns) first main is m = let e : first ≡ n = cc in rw (m, e) refl
