use Rattle.oa_formats.proofs.Conditions.{scalar_is}
use Rattle.oa_formats.proofs.laws.scalars_have_images.Goals as goal

pub returns : goal.returns
returns c = scalar_is
