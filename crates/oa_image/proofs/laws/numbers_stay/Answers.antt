use Rattle.oa_image.proofs.Numbered as law
use Rattle.oa_image.proofs.laws.numbers_stay.Goals as goal

pub returns : goal.returns
returns c = law.numbers_stay
