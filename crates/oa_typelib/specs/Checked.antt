-- Definitions for contracts and proofs, beside promise/Checked.
use Rattle.std.specs.Prelude.{List, IsSome, IfSome}
use Rattle.std.specs.List.{AllByRecursion}
use Rattle.oa_idl.specs.promise.Trees.{TreeValue}
use Rattle.oa_idl.specs.promise.Values.{CoclassValue}
use Rattle.oa_idl.specs.declared.parts.Entry.{Entry}
use Rattle.oa_idl.specs.declared.items.Item.{Item}
use Rattle.oa_typelib.specs.Bindable.{IsSoundItem}
use Rattle.oa_typelib.specs.promise.Descriptions.{entry_description, interfaces_of}
use Rattle.oa_sema.specs.promise.Libraries.{as_class, default_interface}

-- The coclass has a default interface, and each of its entries has a description, so that its description omits none.
pub record IsClass (items : List Item) (c : CoclassValue) : Type 0 where
  pub default : IsSome (default_interface items c)
  pub entries : AllByRecursion (λ (e : Entry). IsSome (entry_description (interfaces_of items) e)) c.entries

-- The item is an interface, or a coclass with a default interface and a description of each entry.
abbrev pub HasClass : List Item → Item → Type 0
HasClass items x = IfSome (as_class x) (IsClass items)

-- A consequence for the items of a library: a call can be bound to each property, and each coclass has a default
-- interface and a description of each entry.
pub record HasSoundItems (tree : TreeValue) : Type 0 where
  pub sound : AllByRecursion IsSoundItem tree.items
  pub classes : AllByRecursion (HasClass tree.items) tree.items
