-- The codes of replies, for use in contracts (MS-ERREF section 2.1).
use Rattle.oa_model.specs.declared.hresult.HResult.{HResult}

abbrev pub s_ok : HResult
s_ok = record { 0 = 0 }

abbrev pub disp_e_unknowninterface : HResult
disp_e_unknowninterface = record { 0 = 2147614721 }

abbrev pub disp_e_membernotfound : HResult
disp_e_membernotfound = record { 0 = 2147614723 }

abbrev pub disp_e_paramnotfound : HResult
disp_e_paramnotfound = record { 0 = 2147614724 }

abbrev pub disp_e_typemismatch : HResult
disp_e_typemismatch = record { 0 = 2147614725 }

abbrev pub disp_e_unknownname : HResult
disp_e_unknownname = record { 0 = 2147614726 }

abbrev pub disp_e_badvartype : HResult
disp_e_badvartype = record { 0 = 2147614728 }

abbrev pub disp_e_overflow : HResult
disp_e_overflow = record { 0 = 2147614730 }

abbrev pub disp_e_badindex : HResult
disp_e_badindex = record { 0 = 2147614731 }

abbrev pub disp_e_arrayislocked : HResult
disp_e_arrayislocked = record { 0 = 2147614733 }

abbrev pub disp_e_badparamcount : HResult
disp_e_badparamcount = record { 0 = 2147614734 }

abbrev pub disp_e_paramnotoptional : HResult
disp_e_paramnotoptional = record { 0 = 2147614735 }

abbrev pub e_notimpl : HResult
e_notimpl = record { 0 = 2147500033 }

abbrev pub e_nointerface : HResult
e_nointerface = record { 0 = 2147500034 }

abbrev pub e_fail : HResult
e_fail = record { 0 = 2147500037 }

abbrev pub e_unexpected : HResult
e_unexpected = record { 0 = 2147549183 }

abbrev pub e_outofmemory : HResult
e_outofmemory = record { 0 = 2147942414 }

abbrev pub e_invalidarg : HResult
e_invalidarg = record { 0 = 2147942487 }

abbrev pub rpc_e_disconnected : HResult
rpc_e_disconnected = record { 0 = 2147549448 }

abbrev pub bad_stub_data : HResult
bad_stub_data = record { 0 = 2147944183 }

abbrev pub regdb_e_classnotreg : HResult
regdb_e_classnotreg = record { 0 = 2147746132 }

abbrev pub stg_e_writefault : HResult
stg_e_writefault = record { 0 = 2147680285 }

abbrev pub stg_e_mediumfull : HResult
stg_e_mediumfull = record { 0 = 2147680368 }
