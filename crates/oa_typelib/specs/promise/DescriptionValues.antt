-- Descriptions, as contracts see them.
use Rattle.std.specs.Prelude.{ℕ, ℤ, Bool, List, Option}
use Rattle.oa_model.specs.declared.var_type.ValueType.{ValueType}
use Rattle.oa_variant.specs.declared.scalar.Scalar.{Scalar}
use Rattle.oa_sema.specs.declared.declaration.DeclarationKind.{DeclarationKind}

-- The description of a parameter.
pub record ParameterDescription : Type 0 where
  pub value_type : ValueType
  pub is_in : Bool
  pub is_optional : Bool
  pub name : List ℕ
  pub default : Option Scalar

-- The description of a declaration. The type None is void.
pub record MemberDescription : Type 0 where
  pub id : ℤ
  pub kind : DeclarationKind
  pub value_type : Option ValueType
  pub name : List ℕ
  pub parameters : List ParameterDescription

-- The description of an entry of a coclass: whether it is the default, and the index of its interface among the
-- descriptions.
pub record EntryDescription : Type 0 where
  pub is_default : Bool
  pub interface : ℕ

-- The members of an interface, or the entries of a coclass.
pub data ContentDescription : Type 0 where
  OfInterface : List MemberDescription → ContentDescription
  OfCoclass : List EntryDescription → ContentDescription

-- The description of an interface or a coclass.
pub record DescriptionValue : Type 0 where
  pub guid : List ℕ
  pub name : List ℕ
  pub content : ContentDescription
