use Rattle.oa_coerce.proofs.Properties.{one_answer}
use Rattle.oa_coerce.proofs.laws.one_answer.Goals as goal

pub returns : goal.returns
returns c = one_answer
