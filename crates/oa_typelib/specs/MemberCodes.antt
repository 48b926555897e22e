-- Definitions for contracts and proofs, beside promise/MemberCodes.
use Rattle.oa_model.specs.declared.hresult.HResult.{HResult}
use Rattle.oa_model.specs.promise.Codes.{disp_e_badindex, e_outofmemory}
use Rattle.oa_typelib.specs.declared.described.DescribeError.{DescribeError}
use Rattle.oa_typelib.specs.declared.described.DescribeError.TheVariants.{BadIndex, Memory}

abbrev pub describe_code : DescribeError → HResult
describe_code BadIndex = disp_e_badindex
describe_code Memory = e_outofmemory
