use Rattle.oa_coerce.proofs.Computed.{value_answer, answer_value, value_refused}
use Rattle.oa_coerce.proofs.laws.answer_is_coercion.Goals as goal

pub returns-clause-made : goal.returns-clause-made
returns-clause-made c = λ v made to. (value_answer v made to, answer_value v made to)

pub returns-clause-refused : goal.returns-clause-refused
returns-clause-refused c = value_refused
