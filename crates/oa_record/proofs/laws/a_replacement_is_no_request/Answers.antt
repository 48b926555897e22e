use Rattle.oa_record.proofs.Replacing.{is_stub}
use Rattle.oa_record.proofs.laws.a_replacement_is_no_request.Goals as goal

pub returns : goal.returns
returns c = is_stub
