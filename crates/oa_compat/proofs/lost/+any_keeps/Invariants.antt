use Rattle.std.proofs.Common.{length}
use Rattle.oa_compat.proofs.lost.+any_keeps.Given as goal

abbrev pub decreases-any_keeps : goal.decreases-any_keeps
decreases-any_keeps l = length l.places.now
