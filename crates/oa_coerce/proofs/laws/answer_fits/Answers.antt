use Rattle.oa_coerce.proofs.Properties.{answer_fits, scalar_fits}
use Rattle.oa_coerce.proofs.laws.answer_fits.Goals as goal

pub returns-clause-value : goal.returns-clause-value
returns-clause-value c = answer_fits

pub returns-clause-scalar : goal.returns-clause-scalar
returns-clause-scalar c = scalar_fits
