-- A property as contracts see it.
use Rattle.std.specs.Prelude.{ℕ, ℤ, Bool, List}
use Rattle.oa_model.specs.declared.var_type.ValueType.{ValueType}
use Rattle.oa_idl.specs.declared.parts.Parameter.{Parameter}

-- A property of `properties:`, or of a get, a put or both of `methods:`.
pub record MemberValue : Type 0 where
  pub id : ℤ
  pub name : List ℕ
  pub value_type : ValueType
  pub parameters : List Parameter
  pub has_get : Bool
  pub has_put : Bool
