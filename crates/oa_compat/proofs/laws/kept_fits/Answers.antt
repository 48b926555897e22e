use Rattle.oa_compat.proofs.KeptFits.{kept_fits}
use Rattle.oa_compat.proofs.laws.kept_fits.Goals as goal

pub returns : goal.returns
returns c = kept_fits
