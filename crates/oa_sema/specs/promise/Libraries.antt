-- The interfaces and coclasses of a tree.
use Rattle.std.specs.Prelude.{ℕ, Bool, nat_eq, if◌then◌else◌, List, Option, Some, None, find}
use Rattle.std.specs.Cmp.Lexicographic.{pointwise}
use Rattle.std.specs.List.{list_any}
use Rattle.std.specs.Option.{option_and_then}
use Rattle.uuid.specs.Parts.{is_nil_bytes}
use Rattle.oa_model.specs.promise.Folding.{folded_name}
use Rattle.oa_idl.specs.promise.Trees.{TreeValue}
use Rattle.oa_idl.specs.promise.Values.{InterfaceValue, CoclassValue}
use Rattle.oa_idl.specs.declared.parts.Entry.{Entry}
use Rattle.oa_idl.specs.declared.items.Item.{Item}
use Rattle.oa_idl.specs.declared.items.Item.TheVariants.{Interface, Coclass}
-- The tree with one default interface marked in each coclass.
pub use Rattle.oa_printer.specs.promise.Marked.{mark, mark_first, marked_entries, marked_item, marked}

-- The bytes are equal.
abbrev pub same : List ℕ → List ℕ → Bool
same = pointwise nat_eq

-- The names are equal without regard to the case of A to Z.
abbrev pub same_name : List ℕ → List ℕ → Bool
same_name a b = same (folded_name a) (folded_name b)

abbrev pub item_name : Item → List ℕ
item_name (Interface i) = i.name
item_name (Coclass c) = c.name

abbrev pub item_guid : Item → List ℕ
item_guid (Interface i) = i.guid
item_guid (Coclass c) = c.guid

abbrev pub as_interface : Item → Option InterfaceValue
as_interface (Interface i) = Some i
as_interface (Coclass c) = None

abbrev pub as_class : Item → Option CoclassValue
as_class (Interface i) = None
as_class (Coclass c) = Some c

-- The interface with a name. Interfaces and coclasses of a library have different names.
abbrev pub interface_named : List Item → List ℕ → Option InterfaceValue
interface_named items name = option_and_then as_interface (find (λ i. same_name name (item_name i)) items)

-- The item with a GUID, and the interface or the coclass with one. The items of a library have different GUIDs.
abbrev pub item_with : List Item → List ℕ → Option Item
item_with items guid = find (λ i. same guid (item_guid i)) items

abbrev pub interface_of : TreeValue → List ℕ → Option InterfaceValue
interface_of tree guid = option_and_then as_interface (item_with tree.items guid)

abbrev pub class_of : TreeValue → List ℕ → Option CoclassValue
class_of tree guid = option_and_then as_class (item_with tree.items guid)

-- The default interface of a coclass.
abbrev pub default_interface : List Item → CoclassValue → Option InterfaceValue
default_interface items class =
    option_and_then (λ (e : Entry). interface_named items e.interface) (find (λ e. e.is_default) class.entries)

-- An entry of the coclass names the interface.
abbrev pub has_interface : CoclassValue → InterfaceValue → Bool
has_interface class i = list_any (λ (e : Entry). same_name e.interface i.name) class.entries

-- The interface, if an entry of the coclass names it.
abbrev pub if_entered : CoclassValue → InterfaceValue → Option InterfaceValue
if_entered class i = if has_interface class i then Some i else None

-- The interface that a GUID selects for a coclass (this project's choice): the zero GUID selects the default interface;
-- another GUID selects the interface that has it, if an entry of the coclass names it.
abbrev pub selected : TreeValue → CoclassValue → List ℕ → Option InterfaceValue
selected tree class guid =
    if is_nil_bytes guid then default_interface tree.items class
    else option_and_then (if_entered class) (interface_of tree guid)

-- As `selected`, with the coclass given by its GUID.
abbrev pub selected_in : TreeValue → List ℕ → List ℕ → Option InterfaceValue
selected_in tree class guid = option_and_then (λ c. selected tree c guid) (class_of tree class)
