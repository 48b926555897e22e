-- One default interface in each coclass.
use Rattle.std.specs.Prelude.{true, if◌then◌else◌, List, [], ◌∷◌, map}
use Rattle.std.specs.List.{list_any}
use Rattle.oa_idl.specs.promise.Trees.{TreeValue}
use Rattle.oa_idl.specs.declared.parts.Entry.{Entry}
use Rattle.oa_idl.specs.declared.items.Item.{Item}
use Rattle.oa_idl.specs.declared.items.Item.TheVariants.{Interface, Coclass}

-- The entry, marked as the default.
abbrev pub mark : Entry → Entry
mark e = record { is_default = true; interface = e.interface }

-- The entries with the first one marked as the default.
abbrev pub mark_first : List Entry → List Entry
mark_first [] = []
mark_first (e ∷ es) = mark e ∷ es

-- The entries with a default: the first one is marked if none is.
abbrev pub marked_entries : List Entry → List Entry
marked_entries es = if list_any (λ e. e.is_default) es then es else mark_first es

abbrev pub marked_item : Item → Item
marked_item (Interface i) = Interface i
marked_item (Coclass c) = Coclass (record { guid = c.guid; name = c.name; entries = marked_entries c.entries })

-- The tree with one default interface marked in each coclass.
abbrev pub marked : TreeValue → TreeValue
marked tree = record { guid = tree.guid; version = tree.version; name = tree.name; items = map marked_item tree.items }
