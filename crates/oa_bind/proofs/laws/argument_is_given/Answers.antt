use Rattle.oa_bind.proofs.Indices.{alone, is_given}
use Rattle.oa_bind.proofs.laws.argument_is_given.Goals as goal

pub returns-clause-found : goal.returns-clause-found
returns-clause-found c = is_given

pub returns-clause-alone : goal.returns-clause-alone
returns-clause-alone c = alone
