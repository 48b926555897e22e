-- When a value cannot be coerced to a type, and the codes of these refusals (MS-ERREF section 2.1).
use Rattle.oa_model.specs.promise.Codes.{disp_e_overflow, disp_e_typemismatch, e_outofmemory}
use Rattle.oa_model.specs.declared.hresult.HResult.{HResult}
use Rattle.oa_model.specs.declared.var_type.ValueType.{ValueType}
use Rattle.oa_model.specs.declared.var_type.ValueType.TheVariants as kinds
use Rattle.oa_coerce.specs.declared.fault.CoerceFault.{CoerceFault}
use Rattle.oa_coerce.specs.declared.fault.CoerceFault.TheVariants.{Overflow, TypeMismatch, Memory}

abbrev pub coercion_code : CoerceFault → HResult
coercion_code Overflow = disp_e_overflow
coercion_code TypeMismatch = disp_e_typemismatch
coercion_code Memory = e_outofmemory

abbrev pub IsArrayType : ValueType → Type 0
IsArrayType (kinds.One t) = ⊥
IsArrayType (kinds.Array t) = Unit {0}
