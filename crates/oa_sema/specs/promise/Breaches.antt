-- The errors that `check` returns (this project's choice). The kinds of errors are checked in one order, each over the
-- whole tree. Within a kind, the error whose later item comes first in the text is the first, and that item is named.
use Rattle.std.specs.Prelude.{ℕ, Bool, true, false, not, ◌&&◌, nat_le, if◌then◌else◌, List, [], ◌∷◌, length, Option}
use Rattle.std.specs.Prelude.{Some, None, map, find, is_some}
use Rattle.std.specs.List.{list_any}
use Rattle.std.specs.Option.{option_map, option_and_then, option_or}
use Rattle.std.specs.Ordering.{int_eq}
use Rattle.oa_model.specs.promise.Folding.{folded_name}
use Rattle.oa_model.specs.promise.Limits.{max_library_bytes}
use Rattle.oa_model.specs.declared.var_type.ValueType.{ValueType}
use Rattle.oa_model.specs.declared.var_type.ValueType.TheVariants.{One, Array}
use Rattle.oa_printer.specs.promise.Canonical.{canonical}
use Rattle.oa_idl.specs.promise.Trees.{TreeValue}
use Rattle.oa_idl.specs.declared.parts.Entry.{Entry}
use Rattle.oa_idl.specs.declared.parts.Literal.{Literal}
use Rattle.oa_idl.specs.declared.parts.Parameter.{Parameter}
use Rattle.oa_idl.specs.declared.items.Item.{Item}
use Rattle.oa_idl.specs.declared.items.Item.TheVariants.{Interface, Coclass}
use Rattle.oa_sema.specs.promise.Agreement.{agree, is_optional}
use Rattle.oa_sema.specs.promise.DeclarationValues.{DeclarationValue}
use Rattle.oa_sema.specs.promise.Declarations.{declarations, are_one_member, is_get_or_put, own_parameters, new_value}
use Rattle.oa_sema.specs.promise.Defaults.{default_of}
use Rattle.oa_sema.specs.promise.Libraries.{same, same_name, item_name, item_guid, interface_named, marked}
use Rattle.oa_sema.specs.promise.Repeats.{first_repeat, first_answer, first_after}
use Rattle.oa_sema.specs.declared.fault.CheckError.{CheckError}
use Rattle.oa_sema.specs.declared.fault.CheckError.TheVariants.{DuplicateName, DuplicateId, DuplicateGuid}
use Rattle.oa_sema.specs.declared.fault.CheckError.TheVariants.{UnknownInterface, GetPutDisagree, ArrayParameter}
use Rattle.oa_sema.specs.declared.fault.CheckError.TheVariants.{BadDefault, TextTooLong}

-- ---- names

-- The first name that equals one before it, without regard to the case of A to Z.
abbrev pub repeated_name : List (List ℕ) → Option (List ℕ)
repeated_name names = first_repeat same folded_name [] names

-- The declarations have the same name, and are not a get and a put.
abbrev pub clashes : DeclarationValue → DeclarationValue → Bool
clashes d e = same_name d.name e.name && not (are_one_member d.kind e.kind)

-- The name of the declaration if it is occupied, otherwise the first of its parameters' names that equals one before
-- it.
abbrev pub declared_breach : List DeclarationValue → DeclarationValue → Option (List ℕ)
declared_breach before d = if list_any (clashes d) before then Some d.name
    else repeated_name (map (λ (p : Parameter). p.name) d.parameters)

-- The first name that is repeated inside an item: among an interface's declarations and their parameters, or among a
-- coclass's entries.
abbrev pub inner_breach : Item → Option (List ℕ)
inner_breach (Interface i) = first_after declared_breach [] (declarations i)
inner_breach (Coclass c) = repeated_name (map (λ (e : Entry). e.interface) c.entries)

-- The name of the item if an item before it has the same one, otherwise the first name that is repeated inside it.
abbrev pub item_breach : List Item → Item → Option (List ℕ)
item_breach before item =
    if list_any (λ (other : Item). same_name (item_name item) (item_name other)) before then Some (item_name item)
    else inner_breach item

-- The first repeated name of a tree.
abbrev pub name_breach : List Item → Option (List ℕ)
name_breach items = first_after item_breach [] items

-- ---- what the declarations of an interface break

-- The error of the item's declarations, if it is an interface.
abbrev pub in_interface : (List DeclarationValue → Option (List ℕ)) → Item → Option (List ℕ)
in_interface breach (Interface i) = breach (declarations i)
in_interface breach (Coclass c) = None

-- The name of the declaration, if it violates a rule together with one before it.
abbrev pub broken_by : (DeclarationValue → DeclarationValue → Bool) → List DeclarationValue → DeclarationValue
    → Option (List ℕ)
broken_by breaks before d = if list_any (breaks d) before then Some d.name else None

-- The name of the first declaration that violates a rule together with one before it.
abbrev pub first_broken : (DeclarationValue → DeclarationValue → Bool) → List DeclarationValue → Option (List ℕ)
first_broken breaks ds = first_after (broken_by breaks) [] ds

-- The declarations have the same DISPID, but are two members.
abbrev pub shares_id : DeclarationValue → DeclarationValue → Bool
shares_id d e = int_eq d.id e.id && not (same_name d.name e.name)

-- The first member whose DISPID a member before it has.
abbrev pub id_breach : List Item → Option (List ℕ)
id_breach items = first_answer (in_interface (first_broken shares_id)) items

-- ---- the first GUID that repeats the library's or that of an item before

-- The first GUID that equals that of the library or of an item before it.
abbrev pub guid_breach : List ℕ → List Item → Option (List ℕ)
guid_breach library items = first_repeat same (λ guid. guid) [] (library ∷ map item_guid items)

-- ---- the first entry of a coclass that names no interface

-- The name in the entry, if it is not that of an interface.
abbrev pub unknown_name : List Item → Entry → Option (List ℕ)
unknown_name items e = if is_some (interface_named items e.interface) then None else Some e.interface

-- The first entry of a coclass that does not name an interface.
abbrev pub entry_breach : List Item → Item → Option (List ℕ)
entry_breach items (Interface i) = None
entry_breach items (Coclass c) = first_answer (unknown_name items) c.entries

-- The first entry of all coclasses that does not name an interface.
abbrev pub interface_breach : List Item → Option (List ℕ)
interface_breach items = first_answer (entry_breach items) items

-- ---- a get and a put of one property that differ

-- The declarations have the same name, but do not agree.
abbrev pub disagrees : DeclarationValue → DeclarationValue → Bool
disagrees d e = same_name d.name e.name && not (agree d e)

-- The first get or put that does not agree with the other one.
abbrev pub form_breach : List Item → Option (List ℕ)
form_breach items = first_answer (in_interface (first_broken disagrees)) items

-- ---- parameters

-- It is an array type.
abbrev pub is_array : ValueType → Bool
is_array (One t) = false
is_array (Array t) = true

-- The name of the first parameter that passes a test.
abbrev pub named_first : (Parameter → Bool) → List Parameter → Option (List ℕ)
named_first test ps = option_map (λ (p : Parameter). p.name) (find test ps)

-- The first array among the parameters of a property. Its new value may be an array.
abbrev pub first_array_parameter : DeclarationValue → Option (List ℕ)
first_array_parameter d = if is_get_or_put d.kind then named_first (λ (p : Parameter). is_array p.value_type)
    (own_parameters d) else None

-- The first array among the parameters of all properties.
abbrev pub array_breach : List Item → Option (List ℕ)
array_breach items = first_answer (in_interface (first_answer first_array_parameter)) items

-- The default has no value of the parameter's type.
abbrev pub is_bad : ValueType → Option Literal → Bool
is_bad t None = false
is_bad t (Some l) = not (is_some (default_of t l))

-- The name of the new value of a put, if a call may omit it: it must always be given.
abbrev pub if_optional : Parameter → Option (List ℕ)
if_optional p = if is_optional p then Some p.name else None

-- The first parameter of a declaration with a default that has no value of its type, or a new value that may be
-- omitted.
abbrev pub bad_default_in : DeclarationValue → Option (List ℕ)
bad_default_in d =
    option_or (named_first (λ (p : Parameter). is_bad p.value_type p.default) (own_parameters d))
    (option_and_then if_optional (new_value d))

-- The first parameter with a bad default, of all interfaces.
abbrev pub default_breach : List Item → Option (List ℕ)
default_breach items = first_answer (in_interface (first_answer bad_default_in)) items

-- ---- the canonical text of the library is a library text, so it is not too long

-- The canonical text of the tree, whose defaults are marked, is too long.
abbrev pub length_breach : TreeValue → Option CheckError
length_breach tree = if nat_le (length (canonical tree)) max_library_bytes then None else Some TextTooLong

-- The canonical text of the tree is too long after its defaults have been marked.
unfoldable pub text_breach : TreeValue → Option CheckError
text_breach tree = length_breach (marked tree)

-- ---- the kinds in their order

-- The first error of names, DISPIDs and GUIDs.
abbrev pub key_breaches : TreeValue → Option CheckError
key_breaches tree =
    option_or (option_map DuplicateName (name_breach tree.items))
    (option_or (option_map DuplicateId (id_breach tree.items))
    (option_map DuplicateGuid (guid_breach tree.guid tree.items)))

-- The first error of gets and puts, arrays and defaults.
abbrev pub form_breaches : List Item → Option CheckError
form_breaches items =
    option_or (option_map GetPutDisagree (form_breach items))
    (option_or (option_map ArrayParameter (array_breach items))
    (option_map BadDefault (default_breach items)))

-- The first error of a tree, except the length of its text.
abbrev pub tree_breach : TreeValue → Option CheckError
tree_breach tree =
    option_or (key_breaches tree)
    (option_or (option_map UnknownInterface (interface_breach tree.items))
    (form_breaches tree.items))

-- The first error of a tree, in the order of the checks.
abbrev pub first_breach : TreeValue → Option CheckError
first_breach tree = option_or (tree_breach tree) (text_breach tree)
