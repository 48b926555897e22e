use Rattle.oa_image.proofs.Numbered as law
use Rattle.oa_image.proofs.laws.pushed_numbers_stay.Goals as goal

pub returns : goal.returns
returns c = law.pushed_numbers_stay
