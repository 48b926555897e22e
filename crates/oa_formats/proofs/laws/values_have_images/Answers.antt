use Rattle.oa_formats.proofs.Conditions.{value_is}
use Rattle.oa_formats.proofs.laws.values_have_images.Goals as goal

pub returns : goal.returns
returns c = value_is
