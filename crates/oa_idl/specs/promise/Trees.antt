-- A tree, as contracts see it.
use Rattle.std.specs.Prelude.{ℕ, List}
use Rattle.oa_idl.specs.declared.parts.Version.{Version}
use Rattle.oa_idl.specs.declared.items.Item.{Item}

-- A library: its GUID, version, name and items. A GUID is the list of its 16 bytes in the order in which it is printed.
pub record TreeValue : Type 0 where
  pub guid : List ℕ
  pub version : Version
  pub name : List ℕ
  pub items : List Item
