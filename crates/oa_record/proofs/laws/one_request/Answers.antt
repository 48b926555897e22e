use Rattle.oa_record.proofs.Requests.{one_request}
use Rattle.oa_record.proofs.laws.one_request.Goals as goal

pub returns : goal.returns
returns c = one_request c.one_value.ensures
