use Rattle.oa_coerce.proofs.Computed.{value_result}
use Rattle.oa_coerce.proofs.values.coerce.Goals as goal

pub returns-clause-answer : goal.returns-clause-answer
returns-clause-answer c = value_result c.args.value c.args.declared c.value_by_rule.result c.value_by_rule.ensures.made c.value_by_rule.ensures.refused
