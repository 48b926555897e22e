-- The call of a property that the arguments make (MS-OAUT section 3.1.4.4), or its first error (the order is this
-- project's choice).
use Rattle.std.specs.Prelude.{◌≡◌, ◌⊎◌, ℕ, ◌<◌, if◌then◌else◌, List, length, Option, Some, None, Result, Ok, Err}
use Rattle.std.specs.Option.{unwrap_or}
use Rattle.oa_model.specs.promise.Codes.{e_invalidarg, disp_e_paramnotfound, disp_e_typemismatch}
use Rattle.oa_model.specs.declared.var_type.VarType.{VarType}
use Rattle.oa_model.specs.declared.var_type.VarType.TheVariants as types
use Rattle.oa_model.specs.declared.var_type.ValueType.{ValueType}
use Rattle.oa_model.specs.declared.var_type.ValueType.TheVariants as kinds
use Rattle.oa_idl.specs.declared.parts.Parameter.{Parameter}
use Rattle.oa_variant.specs.promise.Scalars.{same_type, zero_of}
use Rattle.oa_variant.specs.declared.scalar.Scalar.{Scalar}
use Rattle.oa_variant.specs.declared.scalar.Scalar.TheVariants as scalars
use Rattle.oa_variant.specs.declared.variant.Variant.{Variant}
use Rattle.oa_variant.specs.declared.variant.Variant.TheVariants.{One, Array}
use Rattle.oa_coerce.specs.promise.Answers.{coerced_scalar, coerced}
use Rattle.oa_coerce.specs.promise.Refusals.{IsArrayType, coercion_code}
use Rattle.oa_coerce.specs.declared.fault.CoerceFault.{CoerceFault}
use Rattle.oa_sema.specs.promise.Defaults.{default_value}
use Rattle.oa_typelib.specs.promise.MemberValues.{MemberValue}
use Rattle.oa_typelib.specs.declared.access.Kind.{Kind}
use Rattle.oa_typelib.specs.declared.access.Kind.TheVariants.{Get, Put}
use Rattle.oa_bind.specs.declared.fault.BindFault.{BindFault}
use Rattle.oa_bind.specs.promise.Calls.{BoundCallValue}
use Rattle.oa_bind.specs.promise.Given.{Given, argument_for, given_argument, argument_index, new_value_id}
use Rattle.oa_bind.specs.promise.Names.{complete, well_named}
use Rattle.oa_bind.specs.promise.Refusals.{◌>>=◌, each_at, bind_fault, refused_at}

-- The type of a parameter's values. A library has no property with parameters that are arrays.
abbrev pub scalar_type : ValueType → VarType
scalar_type (kinds.One t) = t
scalar_type (kinds.Array t) = t

-- The value of a missing argument: the parameter's default, otherwise ERROR DISP_E_PARAMNOTFOUND for VARIANT, otherwise
-- the zero value of the type.
abbrev pub without_default : VarType → Scalar
without_default t = if same_type t types.Variant then scalars.Error disp_e_paramnotfound.0 else zero_of t

abbrev pub missing_value : Parameter → Scalar
missing_value p = unwrap_or (default_value p) (without_default (scalar_type p.value_type))

-- The result of a coercion, or its error with the index of the argument.
abbrev pub told_of_argument : {A : Type 0} → ℕ → Result A CoerceFault → Result A BindFault
told_of_argument i (Ok value) = Ok value
told_of_argument i (Err fault) = refused_at (coercion_code fault) i

-- The value of a parameter of a type, from its argument. An array is refused for every such type, including VARIANT.
abbrev pub value_by_argument : VarType → ℕ → Variant → Result Scalar BindFault
value_by_argument t i (One s) = told_of_argument i (coerced_scalar s t)
value_by_argument t i (Array a) = refused_at disp_e_typemismatch i

-- The value of a parameter, from its argument if there is one.
abbrev pub value_of_parameter : Parameter → Option (ℕ × Variant) → Result Scalar BindFault
value_of_parameter p None = Ok (missing_value p)
value_of_parameter p (Some (i, argument)) = value_by_argument (scalar_type p.value_type) i argument

-- The value of the parameter at a place.
abbrev pub parameter_value : Given → ℕ → Parameter → Result Scalar BindFault
parameter_value call place p = value_of_parameter p (argument_for call place)

-- The new value of a put. An ERROR that marks a missing argument is a value here.
abbrev pub new_value_of : ValueType → Option ℕ → Option Variant → Result (Option Variant) BindFault
new_value_of declared None argument = bind_fault e_invalidarg
new_value_of declared (Some i) None = bind_fault e_invalidarg
new_value_of declared (Some i) (Some argument) =
    told_of_argument i (coerced argument declared) >>= λ value. Ok (Some value)

-- The new value of a put; None for a get.
abbrev pub given_new_value : Given → ValueType → Kind → Result (Option Variant) BindFault
given_new_value call declared Get = Ok None
given_new_value call declared Put =
    let i = argument_index call.named (length call.arguments) new_value_id in
    new_value_of declared i (given_argument i call.arguments)

-- The bound call: first the names and the number of the arguments are checked, then missing arguments; then the
-- parameters' values are made by place, and last the new value.
unfoldable pub bound_call : List Parameter → ValueType → Kind → Given → Result BoundCallValue BindFault
bound_call parameters declared kind call = do
  named ← well_named parameters kind call.named (length call.arguments)
  full ← complete parameters call
  key ← each_at (parameter_value call) 0 parameters
  value ← given_new_value call declared kind
  Ok (record { key = key; value = value })

-- A put of a property of an array type: only the array that EMPTY becomes needs memory among the new values.
abbrev pub PutsArray : ValueType → Kind → Type 0
PutsArray declared Get = ⊥
PutsArray declared Put = IsArrayType declared

-- Binding may allocate: neither the names nor the number of the arguments nor a missing one is refused, and the
-- property has parameters, whose key needs memory, or the call is a put of an array type.
pub record BindingTakesMemory (parameters : List Parameter) (declared : ValueType) (kind : Kind)
    (call : Given) : Type 0 where
  pub named : well_named parameters kind call.named (length call.arguments) ≡ Ok tt
  pub full : complete parameters call ≡ Ok tt
  pub some : (0 < length parameters) ⊎ PutsArray declared kind

-- The bound call of a property.
abbrev pub bound_to : MemberValue → Kind → Given → Result BoundCallValue BindFault
bound_to member kind call = bound_call member.parameters member.value_type kind call
