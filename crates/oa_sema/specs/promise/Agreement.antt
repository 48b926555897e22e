-- The agreement of the get and the put of a property.
use Rattle.std.specs.Prelude.{Bool, false, ◌&&◌, ◌||◌, nat_eq, Option, is_some}
use Rattle.std.specs.Bool.{beq}
use Rattle.std.specs.Cmp.Lexicographic.{pointwise}
use Rattle.std.specs.Option.{option_eq}
use Rattle.std.specs.Ordering.{int_eq}
use Rattle.oa_model.specs.promise.Types.{vt_of_value}
use Rattle.oa_model.specs.declared.var_type.ValueType.{ValueType}
use Rattle.oa_idl.specs.declared.parts.Literal.{Literal}
use Rattle.oa_idl.specs.declared.parts.Literal.TheVariants as literals
use Rattle.oa_idl.specs.declared.parts.Parameter.{Parameter}
use Rattle.oa_sema.specs.promise.DeclarationValues.{DeclarationValue}
use Rattle.oa_sema.specs.promise.Declarations.{own_parameters, type_of_value}
use Rattle.oa_sema.specs.promise.Libraries.{same, same_name}

-- The types are equal: no two types have the same number.
abbrev pub same_value_type : ValueType → ValueType → Bool
same_value_type s t = nat_eq (vt_of_value s) (vt_of_value t)

-- Both have no type, or the same one.
abbrev pub same_result : Option ValueType → Option ValueType → Bool
same_result = option_eq same_value_type

-- Both are the same number, text or truth value.
abbrev pub same_literal : Literal → Literal → Bool
same_literal (literals.Number y) (literals.Number z) = int_eq y z
same_literal (literals.Text s) (literals.Text t) = same s t
same_literal (literals.Bool b) (literals.Bool c) = beq b c
same_literal k l = false

-- Both have no default, or the same one.
abbrev pub same_default : Option Literal → Option Literal → Bool
same_default = option_eq same_literal

-- A call may omit the parameter: it is declared `optional`, or it has a default.
abbrev pub is_optional : Parameter → Bool
is_optional p = p.is_optional || is_some p.default

-- The parameters agree in the name without regard to the case of A to Z, the type, the flags and the default.
unfoldable pub same_parameter : Parameter → Parameter → Bool
same_parameter p q =
    same_name p.name q.name && same_value_type p.value_type q.value_type && beq p.is_in q.is_in
    && beq (is_optional p) (is_optional q)
    && same_default p.default q.default

-- The declarations agree in the DISPID, the type of the property's value, and the parameters without the new value of a
-- put.
unfoldable pub agree : DeclarationValue → DeclarationValue → Bool
agree d e =
    int_eq d.id e.id && same_result (type_of_value d) (type_of_value e)
    && pointwise same_parameter (own_parameters d) (own_parameters e)
