-- Members of the section `methods:`, as contracts see them.
use Rattle.std.specs.Prelude.{ℕ, ℤ, List, Option}
use Rattle.oa_model.specs.declared.var_type.ValueType.{ValueType}
use Rattle.oa_idl.specs.declared.parts.MethodKind.{MethodKind}
use Rattle.oa_idl.specs.declared.parts.Parameter.{Parameter}

-- A method, a get or a put. The type None is void.
pub record MethodValue : Type 0 where
  pub id : ℤ
  pub kind : MethodKind
  pub value_type : Option ValueType
  pub name : List ℕ
  pub parameters : List Parameter
