use Rattle.std.proofs.Common.{length}
use Rattle.oa_typelib.proofs.forms.+form_at.Given as goal

abbrev pub decreases-form_at : goal.decreases-form_at
decreases-form_at l = length l.places.now
