use Rattle.std.proofs.Common.{length, ◌∷◌}
use Rattle.oa_array.proofs.Walks.{IsSizeSoFar}
use Rattle.oa_array.proofs.position.size.Given as goal

abbrev pub invariant-dimensions : goal.invariant-dimensions
invariant-dimensions l = IsSizeSoFar (l.fn.first ∷ l.fn.others) l.left l.size

abbrev pub decreases-dimensions : goal.decreases-dimensions
decreases-dimensions l = length l.left
