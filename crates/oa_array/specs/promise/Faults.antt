-- The refusals of operations on arrays: when each occurs, and its code (MS-ERREF section 2.1). Their order is this
-- project's choice.
use Rattle.oa_model.specs.declared.hresult.HResult.{HResult}
use Rattle.oa_model.specs.promise.Codes.{disp_e_badindex, disp_e_typemismatch, disp_e_arrayislocked, e_invalidarg}
use Rattle.oa_model.specs.promise.Codes.{e_unexpected, e_outofmemory}
use Rattle.oa_array.specs.declared.fault.ArrayFault.{ArrayFault}
use Rattle.oa_array.specs.declared.fault.ArrayFault.TheVariants.{BadIndex, TypeMismatch, IsLocked, InvalidArgument}
use Rattle.oa_array.specs.declared.fault.ArrayFault.TheVariants.{Unexpected, Memory}

abbrev pub array_code : ArrayFault → HResult
array_code BadIndex = disp_e_badindex
array_code TypeMismatch = disp_e_typemismatch
array_code IsLocked = disp_e_arrayislocked
array_code InvalidArgument = e_invalidarg
array_code Unexpected = e_unexpected
array_code Memory = e_outofmemory
