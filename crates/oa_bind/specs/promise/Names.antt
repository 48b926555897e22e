-- The checks before any argument is coerced: of the names and the number of the arguments, and of missing ones (the
-- order is this project's choice).
use Rattle.std.specs.Prelude.{ℕ, ◌+◌, ℤ, nat_lt, Bool, false, not, ◌&&◌, ◌||◌, if◌then◌else◌, List, [], ◌∷◌, length}
use Rattle.std.specs.Prelude.{is_none, Result}
use Rattle.std.specs.List.{list_any, position_from}
use Rattle.std.specs.Ordering.{int_eq}
use Rattle.oa_model.specs.promise.Codes.{e_invalidarg, disp_e_badparamcount, disp_e_paramnotfound}
use Rattle.oa_model.specs.promise.Codes.{disp_e_paramnotoptional}
use Rattle.oa_idl.specs.declared.parts.Parameter.{Parameter}
use Rattle.oa_sema.specs.promise.Agreement.{is_optional}
use Rattle.oa_typelib.specs.declared.access.Kind.{Kind}
use Rattle.oa_typelib.specs.declared.access.Kind.TheVariants.{Get, Put}
use Rattle.oa_bind.specs.declared.fault.BindFault.{BindFault}
use Rattle.oa_bind.specs.promise.Given.{Given, by_position, argument_for, is_parameter, new_value_id}
use Rattle.oa_bind.specs.promise.Refusals.{◌>>=◌, any_at, bind_fault_if, unless_at}

-- 1. There are more names than arguments, a DISPID is named twice, a put names no new value, or a get names one.

abbrev pub repeats : List ℤ → Bool
repeats [] = false
repeats (first ∷ rest) = list_any (λ id. int_eq id first) rest || repeats rest

abbrev pub names_value : List ℤ → Bool
names_value named = list_any (λ id. int_eq id new_value_id) named

abbrev pub names_well : Kind → List ℤ → Bool
names_well Get named = not (names_value named)
names_well Put named = names_value named

abbrev pub is_consistent : Kind → List ℤ → ℕ → Bool
is_consistent kind named count = if nat_lt count (length named) || repeats named then false else names_well kind named

-- 2. There are more arguments than one for each parameter and the new value of a put.

abbrev pub most : Kind → List Parameter → ℕ
most Get parameters = length parameters
most Put parameters = length parameters + 1

-- 3. A name other than that of the new value is that of no parameter, or of one that is also given by position.

abbrev pub names_none : ℕ → ℕ → ℤ → Bool
names_none positions parameters id =
    not (int_eq id new_value_id) && (not (is_parameter parameters id) || is_parameter positions id)

unfoldable pub well_named : List Parameter → Kind → List ℤ → ℕ → Result (Unit {0}) BindFault
well_named parameters kind named count = do
  consistent ← bind_fault_if e_invalidarg (not (is_consistent kind named count))
  few ← bind_fault_if disp_e_badparamcount (nat_lt (most kind parameters) count)
  unless_at disp_e_paramnotfound (position_from (names_none (by_position named count) (length parameters)) 0 named)

-- 4. A required parameter has no argument, or one that is marked as missing.

abbrev pub lacks : Given → ℕ → Parameter → Bool
lacks call place p = not (is_optional p) && is_none (argument_for call place)

unfoldable pub complete : List Parameter → Given → Result (Unit {0}) BindFault
complete parameters call = bind_fault_if disp_e_paramnotoptional (any_at (lacks call) 0 parameters)
