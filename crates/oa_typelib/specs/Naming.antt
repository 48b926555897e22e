-- The meaning of a name in an interface, stated without a search (MS-OAUT section 3.1.4.3).
use Rattle.std.specs.Prelude.{◌≡◌, ◌↔◌, ◌∷◌, ℕ, suc, ℤ, pos, true, List, Some, slice_get}
use Rattle.oa_idl.specs.promise.Values.{InterfaceValue}
use Rattle.oa_idl.specs.declared.parts.Parameter.{Parameter}
use Rattle.oa_sema.specs.promise.DeclarationValues.{DeclarationValue}
use Rattle.oa_sema.specs.promise.Declarations.{declarations, own_parameters}
use Rattle.oa_sema.specs.promise.Libraries.{same_name}
use Rattle.oa_typelib.specs.promise.Names.{named_in}

-- The interface has a declaration `d` with this name, without regard to the case of A to Z.
pub record Declares (i : InterfaceValue) (name : List ℕ) (d : DeclarationValue) : Type 0 where
  pub place : ℕ
  pub there : slice_get (declarations i) place ≡ Some d
  pub named : same_name name d.name ≡ true

-- A member of the interface has this name and this DISPID.
pub record IsMember (i : InterfaceValue) (name : List ℕ) (id : ℤ) : Type 0 where
  pub declaration : DeclarationValue
  pub declared : Declares i name declaration
  pub has : declaration.id ≡ id

-- A parameter of the member has this name, and its DISPID is its place. The new value of a put is not such a parameter.
pub record IsParameterOf (i : InterfaceValue) (member name : List ℕ) (id : ℤ) : Type 0 where
  pub declaration : DeclarationValue
  pub declared : Declares i member declaration
  pub place : ℕ
  pub parameter : Parameter
  pub there : slice_get (own_parameters declaration) place ≡ Some parameter
  pub named : same_name name parameter.name ≡ true
  pub has : id ≡ pos place

-- The first name of a look-up has a DISPID if and only if a member has this name, and it is that member's DISPID.
abbrev pub NamesMembers : InterfaceValue → Type 0
NamesMembers i =
    (name : List ℕ) (names : List (List ℕ)) (id : ℤ)
    → (slice_get (named_in i (name ∷ names)) 0 ≡ Some (Some id)) ↔ IsMember i name id

-- Each later name has a DISPID if and only if a parameter of that member has this name, and it is the parameter's
-- place.
abbrev pub NamesParameters : InterfaceValue → Type 0
NamesParameters i =
    (member : List ℕ) (names : List (List ℕ)) (n : ℕ) (name : List ℕ) (id : ℤ)
    → slice_get names n ≡ Some name
    → (slice_get (named_in i (member ∷ names)) (suc n) ≡ Some (Some id)) ↔ IsParameterOf i member name id
