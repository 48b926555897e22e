use Rattle.oa_tokens.proofs.OneList.{one_list}
use Rattle.oa_tokens.proofs.laws.one_list.Goals as goal

pub returns : goal.returns
returns c = one_list
