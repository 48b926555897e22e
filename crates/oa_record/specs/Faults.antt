-- The codes of refusals (MS-ERREF section 2.1), and the indices that are reported with them.
use Rattle.std.specs.Prelude.{ℕ, Option, None}
use Rattle.oa_model.specs.declared.hresult.HResult.{HResult}
use Rattle.oa_model.specs.promise.Codes.{bad_stub_data, disp_e_badvartype, e_outofmemory}
use Rattle.oa_record.specs.declared.fault.RecordFault.{RecordFault}
use Rattle.oa_record.specs.declared.fault.RecordFault.TheVariants.{Stub, BadVarType, Memory}

-- The code of the reply with this refusal.
abbrev pub record_code : RecordFault → HResult
record_code Stub = bad_stub_data
record_code (BadVarType index) = disp_e_badvartype
record_code Memory = e_outofmemory

-- The index in rgvarg that the reply with this refusal contains.
abbrev pub index_told : RecordFault → Option ℕ
index_told Stub = None
index_told (BadVarType index) = index
index_told Memory = None
