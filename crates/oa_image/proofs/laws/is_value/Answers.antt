use Rattle.oa_image.proofs.Members.{is_value}
use Rattle.oa_image.proofs.laws.is_value.Goals as goal

pub returns : goal.returns
returns c = is_value c.args.value.now c.requires c.is_variant.ensures
