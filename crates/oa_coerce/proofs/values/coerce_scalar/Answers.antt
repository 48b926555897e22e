use Rattle.oa_coerce.proofs.Computed.{scalar_result}
use Rattle.oa_coerce.proofs.values.coerce_scalar.Goals as goal

pub returns-clause-answer : goal.returns-clause-answer
returns-clause-answer c = scalar_result c.args.value c.args.to c.scalar_by_rule.result c.scalar_by_rule.ensures.made c.scalar_by_rule.ensures.refused
