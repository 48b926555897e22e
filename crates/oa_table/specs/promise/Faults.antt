-- The codes of refusals (MS-ERREF section 2.1).
use Rattle.oa_model.specs.declared.hresult.HResult.{HResult}
use Rattle.oa_model.specs.promise.Codes.{disp_e_typemismatch, e_outofmemory, e_unexpected, rpc_e_disconnected}
use Rattle.oa_array.specs.promise.Faults.{array_code}
use Rattle.oa_table.specs.declared.fault.TableFault.{TableFault}
use Rattle.oa_table.specs.declared.fault.TableFault.TheVariants.{NoObject, WrongNumber, NotArray, Array, Memory}

abbrev pub table_code : TableFault → HResult
table_code NoObject = rpc_e_disconnected
table_code WrongNumber = e_unexpected
table_code NotArray = disp_e_typemismatch
table_code (Array fault) = array_code fault
table_code Memory = e_outofmemory
