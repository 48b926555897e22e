use Rattle.std.proofs.Common.{length}
use Rattle.oa_typelib.proofs.forms.+any_lets.Given as goal

abbrev pub decreases-any_lets : goal.decreases-any_lets
decreases-any_lets l = length l.places.now
