-- The items of a tree, as contracts see them.
use Rattle.std.specs.Prelude.{ℕ, List}
use Rattle.oa_idl.specs.declared.parts.Property.{Property}
use Rattle.oa_idl.specs.declared.parts.Entry.{Entry}
use Rattle.oa_idl.specs.promise.MethodValues.{MethodValue}

-- An interface. A GUID is the list of its 16 bytes in the order in which it is printed.
pub record InterfaceValue : Type 0 where
  pub guid : List ℕ
  pub name : List ℕ
  pub properties : List Property
  pub methods : List MethodValue

-- A coclass.
pub record CoclassValue : Type 0 where
  pub guid : List ℕ
  pub name : List ℕ
  pub entries : List Entry
