-- A property of `properties:` that alone has a DISPID: its place tells all of it.
use Rattle.std.proofs.Common.{◌≡◌, ℕ, ℤ, zero, suc, Bool, true, false, true≢false, List, [], ◌∷◌, length, get_or, ◌++◌, map, slice_get, Some, Ok, refl, sym, ap}
use Rattle.std.proofs.lemmas.Option.{none-some}
use Rattle.std.specs.List.{filter_map}
use Rattle.std.specs.Option.{option_map}
use Rattle.oa_sema.specs.promise.DeclarationValues.{DeclarationValue}
use Rattle.oa_sema.specs.promise.Declarations.{declarations, kind_of_property, of_property, of_method, own_parameters}
use Rattle.oa_idl.specs.promise.Values.{InterfaceValue}
use Rattle.oa_idl.specs.declared.parts.Property.{Property}
use Rattle.oa_typelib.specs.promise.Members.{answer, forms_with, kind_asked, lets, main_form, property_of}
use Rattle.oa_typelib.specs.declared.access.Access.{Access}
use Rattle.oa_typelib.specs.declared.access.Kind.{Kind}
use Rattle.oa_typelib.specs.declared.access.Kind.TheVariants as forms
use Rattle.oa_decision.specs.Cells.{IsKeyless}

-- the properties are the first declarations
front : (ps : List Property) (rest : List DeclarationValue) (place : ℕ) (p : Property) → slice_get ps place ≡ Some p
    → slice_get (map of_property ps ++ rest) place ≡ Some (of_property p)
front [] rest place p is = absurd (none-some p is)
front (q ∷ ps) rest zero p is = ap (option_map of_property) is
front (q ∷ ps) rest (suc place) p is = front ps rest place p is

answered : (p : Property) (b : Bool) → p.readonly ≡ b → (access : Access) (form : Kind) → Some form ≡ kind_asked access
    → lets form (kind_of_property b) ≡ true
    → answer (main_form (of_property p ∷ [])) (of_property p ∷ []) access ≡ Ok (property_of (of_property p ∷ []) (of_property p) p.value_type, form)
answered p true e access forms.Get asked may = rw (e, sym asked) refl
answered p true e access forms.Put asked may = absurd (true≢false (sym may))
answered p false e access forms.Get asked may = rw (e, sym asked) refl
answered p false e access forms.Put asked may = rw (e, sym asked) refl

no_parameters : (p : Property) (b : Bool) → p.readonly ≡ b → own_parameters (of_property p) ≡ []
no_parameters p true e = rw e refl
no_parameters p false e = rw e refl

pub only_one : {X : Type 0} (xs : List X) (x : X) → length xs ≡ 1 → xs ≡ get_or xs 0 x ∷ []
only_one [] x one = absurd cc
only_one (y ∷ []) x one = refl
only_one (y ∷ z ∷ ys) x one = absurd cc

pub keyless : (i : InterfaceValue) (dispid : ℤ) (access : Access) (form : Kind) (places : List ℕ) (place : ℕ) (p : Property)
    → filter_map (slice_get (declarations i)) places ≡ forms_with dispid i → places ≡ place ∷ [] → slice_get i.properties place ≡ Some p
    → Some form ≡ kind_asked access → lets form (kind_of_property p.readonly) ≡ true → IsKeyless i dispid access p.value_type form
keyless i dispid access form places place p all only is asked may =
    let at = front i.properties (map of_method i.methods) place p is in
    let alone : forms_with dispid i ≡ of_property p ∷ [] = rw (sym all, only, at) refl in
    record {
      member = property_of (of_property p ∷ []) (of_property p) p.value_type;
      found = rw (alone, answered p p.readonly refl access form asked may) refl;
      typed = refl;
      keyless = no_parameters p p.readonly refl;
    }
