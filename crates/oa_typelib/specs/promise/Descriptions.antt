-- The descriptions of a library's interfaces and coclasses (this project's choice): first the interfaces in the text's
-- order, then the coclasses.
use Rattle.std.specs.Prelude.{ℕ, Bool, nat_lt, if◌then◌else◌, not, List, [], ◌∷◌, ◌++◌, map, slice_get, position}
use Rattle.std.specs.Prelude.{Option, Some, None}
use Rattle.std.specs.List.{filter, filter_map, flat_map, list_any}
use Rattle.std.specs.Option.{option_and_then}
use Rattle.oa_idl.specs.promise.Trees.{TreeValue}
use Rattle.oa_idl.specs.promise.Values.{InterfaceValue, CoclassValue}
use Rattle.oa_idl.specs.declared.parts.Entry.{Entry}
use Rattle.oa_idl.specs.declared.parts.Parameter.{Parameter}
use Rattle.oa_idl.specs.declared.items.Item.{Item}
use Rattle.oa_sema.specs.promise.Agreement.{is_optional}
use Rattle.oa_sema.specs.promise.DeclarationValues.{DeclarationValue}
use Rattle.oa_sema.specs.promise.Declarations.{declarations, is_put}
use Rattle.oa_sema.specs.promise.Defaults.{default_value}
use Rattle.oa_typelib.specs.promise.DescriptionValues.{ParameterDescription, MemberDescription, EntryDescription}
use Rattle.oa_typelib.specs.promise.DescriptionValues.{DescriptionValue}
use Rattle.oa_typelib.specs.promise.DescriptionValues.ContentDescription.{OfInterface, OfCoclass}
use Rattle.oa_sema.specs.promise.Libraries.{as_interface, as_class, same_name}
use Rattle.oa_typelib.specs.promise.Members.{forms_named}

-- The description of a parameter, with the value of its default.
abbrev pub parameter_description : Parameter → ParameterDescription
parameter_description p =
    record {
      value_type = p.value_type;
      is_in = p.is_in;
      is_optional = is_optional p;
      name = p.name;
      default = default_value p;
    }

-- The description of a declaration as it is written, with the new value of a put among its parameters.
abbrev pub member_description : DeclarationValue → MemberDescription
member_description d =
    record {
      id = d.id;
      kind = d.kind;
      value_type = d.value_type;
      name = d.name;
      parameters = map parameter_description d.parameters;
    }

-- The names of a list that differ from all names before them, without regard to the case of A to Z.
unfoldable pub first_names : List (List ℕ) → List (List ℕ) → List (List ℕ)
first_names before [] = []
first_names before (name ∷ names) =
    if list_any (same_name name) before then first_names before names
    else name ∷ first_names (before ++ name ∷ []) names

-- The names of an interface's members, each as it first appears.
abbrev pub member_names : InterfaceValue → List (List ℕ)
member_names i = first_names [] (map (λ (d : DeclarationValue). d.name) (declarations i))

-- The declarations that are no puts, followed by the puts: a get before its put.
abbrev pub put_last : List DeclarationValue → List DeclarationValue
put_last forms = filter (λ (d : DeclarationValue). not (is_put d.kind)) forms
    ++ filter (λ (d : DeclarationValue). is_put d.kind) forms

-- The declarations of an interface, by member in the order in which the members' names first appear.
abbrev pub members_described : InterfaceValue → List DeclarationValue
members_described i = flat_map (λ name. put_last (forms_named name i)) (member_names i)

-- The interfaces among the items, in the text's order.
abbrev pub interfaces_of : List Item → List InterfaceValue
interfaces_of items = filter_map as_interface items

-- The coclasses among the items, in the text's order.
abbrev pub classes_of : List Item → List CoclassValue
classes_of items = filter_map as_class items

-- The description of an interface.
abbrev pub interface_description : InterfaceValue → DescriptionValue
interface_description i =
    record { guid = i.guid; name = i.name; content = OfInterface (map member_description (members_described i)) }

-- The description of an entry whose interface has this index, if the index fits 32 bits; in a library it always does.
abbrev pub described_entry : Bool → ℕ → Option EntryDescription
described_entry is_default n = if nat_lt n 4294967296 then Some (record { is_default = is_default; interface = n })
    else None

-- The description of an entry; None if it names no interface.
abbrev pub entry_description : List InterfaceValue → Entry → Option EntryDescription
entry_description interfaces e =
    option_and_then (described_entry e.is_default)
    (position (λ (i : InterfaceValue). same_name e.interface i.name) interfaces)

-- The description of a coclass, without entries that name no interface.
abbrev pub class_description : List InterfaceValue → CoclassValue → DescriptionValue
class_description interfaces c =
    record { guid = c.guid; name = c.name; content = OfCoclass (filter_map (entry_description interfaces) c.entries) }

-- The descriptions of a library, by their indexes.
abbrev pub descriptions : TreeValue → List DescriptionValue
descriptions tree =
    map interface_description (interfaces_of tree.items)
    ++ map (class_description (interfaces_of tree.items)) (classes_of tree.items)

-- The description with an index; None if there are fewer.
abbrev pub description_at : TreeValue → ℕ → Option DescriptionValue
description_at tree index = slice_get (descriptions tree) index
