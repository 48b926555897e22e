use Rattle.oa_coerce.proofs.Computed.{scalar_answer, answer_scalar, scalar_refused}
use Rattle.oa_coerce.proofs.laws.scalar_answer_is_coercion.Goals as goal

pub returns-clause-made : goal.returns-clause-made
returns-clause-made c = λ s made to. (scalar_answer s made to, answer_scalar s made to)

pub returns-clause-refused : goal.returns-clause-refused
returns-clause-refused c = scalar_refused
