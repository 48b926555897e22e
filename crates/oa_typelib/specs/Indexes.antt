-- The indexes of a library, which make its look-ups fast.
use Rattle.std.specs.Prelude.{◌≡◌, ℕ, Bool, false, not, if◌then◌else◌, List, [], Option, Some, None, map, find}
use Rattle.std.specs.Prelude.{position, slice_get}
use Rattle.std.specs.List.{filter_map, list_any}
use Rattle.std.specs.Option.{option_and_then, unwrap_or}
use Rattle.std.specs.Ordering.{int_eq}
use Rattle.oa_model.specs.promise.Folding.{folded_name}
use Rattle.oa_idl.specs.promise.Trees.{TreeValue}
use Rattle.oa_idl.specs.promise.Values.{InterfaceValue, CoclassValue}
use Rattle.oa_idl.specs.declared.parts.Entry.{Entry}
use Rattle.oa_idl.specs.declared.items.Item.{Item}
use Rattle.oa_idl.specs.declared.items.Item.TheVariants.{Interface, Coclass}
use Rattle.oa_printer.specs.promise.Canonical.{canonical}
use Rattle.oa_sema.specs.declared.declaration.DeclarationKind.{DeclarationKind}
use Rattle.oa_sema.specs.promise.DeclarationValues.{DeclarationValue}
use Rattle.oa_sema.specs.promise.Declarations.{declarations, is_put}
use Rattle.oa_sema.specs.Defaults.{defaults_of}
use Rattle.oa_typelib.specs.promise.DescriptionValues.{EntryDescription, DescriptionValue}
use Rattle.oa_typelib.specs.promise.DescriptionValues.ContentDescription.{OfCoclass}
use Rattle.oa_typelib.specs.promise.Descriptions.{described_entry, interfaces_of}
use Rattle.oa_typelib.specs.Groups.{GroupsValue, keys_with_places, places_in}
use Rattle.oa_typelib.specs.IndexValues.{MembersValue, IndexValue}
use Rattle.oa_sema.specs.promise.Libraries.{same, item_guid}
use Rattle.oa_sema.specs.Libraries.{folded_names}

-- The place in a list of folded names of the interface that the default entry names.
abbrev pub default_among : List (List ℕ) → List Entry → Option ℕ
default_among names entries =
    option_and_then (λ (e : Entry). position (same (folded_name e.interface)) names) (find (λ e. e.is_default) entries)

-- The place of a coclass's default interface; None for an interface.
abbrev pub default_in : List (List ℕ) → Item → Option ℕ
default_in names (Interface i) = None
default_in names (Coclass c) = default_among names c.entries

-- The declarations by their folded names and by their DISPIDs, and the values of their defaults.
abbrev pub grouped : List DeclarationValue → MembersValue
grouped ds =
    record {
      by_name = keys_with_places same (map (λ (d : DeclarationValue). folded_name d.name) ds);
      by_id = keys_with_places int_eq (map (λ (d : DeclarationValue). d.id) ds);
      defaults = map defaults_of ds;
    }

-- The members of an item; a coclass has none.
abbrev pub members_in : Item → MembersValue
members_in (Interface i) = grouped (declarations i)
members_in (Coclass c) = grouped []

-- Some entry of the coclass has the name of an item, which is given folded.
abbrev pub enters : CoclassValue → List ℕ → Bool
enters c key = list_any (λ (e : Entry). same (folded_name e.interface) key) c.entries

-- For each item whether an entry of the coclass names it; the empty list for an interface.
abbrev pub entered_in : List (List ℕ) → Item → List Bool
entered_in names (Interface i) = []
entered_in names (Coclass c) = map (enters c) names

-- The flag at a place of a row; false if there is none.
abbrev pub flag_of : Option (List Bool) → ℕ → Bool
flag_of None place = false
flag_of (Some row) place = unwrap_or (slice_get row place) false

-- The flag at a row and a place; false if there is none.
abbrev pub flag_at : List (List Bool) → ℕ → ℕ → Bool
flag_at rows class place = flag_of (slice_get rows class) place

-- The index of a tree: the members of each item, the interfaces by their folded names, and the items that each coclass
-- names.
abbrev pub index_of : TreeValue → IndexValue
index_of tree =
    record {
      members = map members_in tree.items;
      entered = map (entered_in (folded_names tree.items)) tree.items;
      interfaces = keys_with_places same (map (λ (i : InterfaceValue). folded_name i.name) (interfaces_of tree.items));
    }

-- The kind is a put, if `puts` is true; otherwise it is no put.
abbrev pub is_put_or_not : Bool → DeclarationKind → Bool
is_put_or_not puts kind = if puts then is_put kind else not (is_put kind)

-- The place among the interfaces of the interface with a folded name.
abbrev pub first_in : GroupsValue (List ℕ) → List ℕ → Option ℕ
first_in groups name = slice_get (places_in (position (same name) groups.keys) groups.places) 0

-- The description of an entry, and of a coclass, by the index of the interfaces.
abbrev pub entry_in : GroupsValue (List ℕ) → Entry → Option EntryDescription
entry_in groups e = option_and_then (described_entry e.is_default) (first_in groups (folded_name e.interface))

abbrev pub described_class : GroupsValue (List ℕ) → CoclassValue → DescriptionValue
described_class groups c =
    record { guid = c.guid; name = c.name; content = OfCoclass (filter_map (entry_in groups) c.entries) }

-- The other parts of a library agree with its tree: the GUIDs of its items, the index, the default interfaces and the
-- canonical text.
abbrev pub IsIndexed : TreeValue → List (List ℕ) → IndexValue → List (Option ℕ) → List ℕ → Type 0
IsIndexed tree guids index defaults text =
    (guids ≡ map item_guid tree.items)
    × (index ≡ index_of tree)
    × (defaults ≡ map (default_in (folded_names tree.items)) tree.items)
    × (text ≡ canonical tree)
