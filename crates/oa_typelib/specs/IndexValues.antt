-- The index of a library's members and interfaces, as contracts see it.
use Rattle.std.specs.Prelude.{ℕ, ℤ, Bool, List, Option}
use Rattle.oa_variant.specs.declared.scalar.Scalar.{Scalar}
use Rattle.oa_typelib.specs.Groups.{GroupsValue}

-- The places of an interface's declarations by their folded names and by their DISPIDs, and for each declaration the
-- values of its parameters' defaults.
pub record MembersValue : Type 0 where
  pub by_name : GroupsValue (List ℕ)
  pub by_id : GroupsValue ℤ
  pub defaults : List (List (Option Scalar))

-- The members of each item, the places of the interfaces by their folded names, and for each coclass the items that its
-- entries name.
pub record IndexValue : Type 0 where
  pub members : List MembersValue
  pub interfaces : GroupsValue (List ℕ)
  pub entered : List (List Bool)
