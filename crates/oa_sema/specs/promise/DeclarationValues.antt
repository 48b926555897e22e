-- Declarations, as contracts see them.
use Rattle.std.specs.Prelude.{ℕ, ℤ, List, Option}
use Rattle.oa_model.specs.declared.var_type.ValueType.{ValueType}
use Rattle.oa_idl.specs.declared.parts.Parameter.{Parameter}
use Rattle.oa_sema.specs.declared.declaration.DeclarationKind.{DeclarationKind}

-- A declaration of an interface: a property of `properties:`, or a method, a get or a put of `methods:`. The type is
-- that in the text; None is void.
pub record DeclarationValue : Type 0 where
  pub id : ℤ
  pub name : List ℕ
  pub kind : DeclarationKind
  pub value_type : Option ValueType
  pub parameters : List Parameter
