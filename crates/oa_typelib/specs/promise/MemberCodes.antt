-- The codes of replies for the errors of a library's look-ups (MS-ERREF section 2.1).
use Rattle.oa_model.specs.declared.hresult.HResult.{HResult}
use Rattle.oa_model.specs.promise.Codes.{disp_e_membernotfound, e_notimpl}
use Rattle.oa_typelib.specs.declared.access.MemberFault.{MemberFault}
use Rattle.oa_typelib.specs.declared.access.MemberFault.TheVariants.{MemberNotFound, NotImplemented}

abbrev pub member_code : MemberFault → HResult
member_code MemberNotFound = disp_e_membernotfound
member_code NotImplemented = e_notimpl
