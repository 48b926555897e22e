-- The DISPIDs of names (MS-OAUT section 3.1.4.3): the first name is that of a member, the others are names of its
-- parameters. Names are lists of UTF-16 units. They are compared without regard to the case of A to Z (this project's
-- choice).
use Rattle.std.specs.Prelude.{ℕ, ℤ, pos, nat_lt, if◌then◌else◌, List, [], ◌∷◌, map, Option, Some, None, is_some}
use Rattle.std.specs.Prelude.{position}
use Rattle.std.specs.List.{list_all}
use Rattle.std.specs.Option.{option_and_then, unwrap_or}
use Rattle.oa_model.specs.promise.Invoke.{unknown_dispid}
use Rattle.oa_idl.specs.promise.Values.{InterfaceValue}
use Rattle.oa_idl.specs.declared.parts.Parameter.{Parameter}
use Rattle.oa_sema.specs.promise.DeclarationValues.{DeclarationValue}
use Rattle.oa_sema.specs.promise.Declarations.{own_parameters}
use Rattle.oa_sema.specs.promise.Libraries.{same_name}
use Rattle.oa_typelib.specs.promise.Members.{forms_named, main_form}
use Rattle.oa_typelib.specs.promise.NamedValues.{DispIdsValue}

-- The DISPID of a parameter is its place, counted from 0 (this project's choice), if that fits 31 bits: a member of a
-- library has at most 16 parameters. The new value of a put has no DISPID.
abbrev pub place_as_id : ℕ → Option ℤ
place_as_id n = if nat_lt n 2147483648 then Some (pos n) else None

-- The DISPID of the parameter with a name.
abbrev pub parameter_named : List Parameter → List ℕ → Option ℤ
parameter_named parameters name =
    option_and_then place_as_id (position (λ (p : Parameter). same_name name p.name) parameters)

-- The DISPIDs of names, given the declaration of the member: the member's own for the first name, and those of its
-- parameters for the others. None is known if there is no member.
abbrev pub ids_in : Option DeclarationValue → List (List ℕ) → List (Option ℤ)
ids_in None names = map (λ name. None) names
ids_in (Some d) [] = []
ids_in (Some d) (name ∷ names) = Some d.id ∷ map (parameter_named (own_parameters d)) names

-- The DISPIDs of names in an interface; None for an unknown name.
abbrev pub named_in : InterfaceValue → List (List ℕ) → List (Option ℤ)
named_in i [] = []
named_in i (name ∷ names) = ids_in (main_form (forms_named name i)) (name ∷ names)

-- The DISPID, or DISPID_UNKNOWN for an unknown name.
abbrev pub or_unknown : Option ℤ → ℤ
or_unknown id = unwrap_or id unknown_dispid

-- The reply with these DISPIDs.
abbrev pub dispids_reply : List (Option ℤ) → DispIdsValue
dispids_reply ids = record { ids = map or_unknown ids; all_known = list_all is_some ids }

-- The reply to a look-up of names in an interface.
abbrev pub names_told : InterfaceValue → List (List ℕ) → DispIdsValue
names_told i names = dispids_reply (named_in i names)
