use Rattle.std.proofs.Common.{length}
use Rattle.oa_array.proofs.Walks.{IsPlaceSoFar}
use Rattle.oa_array.proofs.position.position.Given as goal

abbrev pub invariant-dimensions : goal.invariant-dimensions
invariant-dimensions l = IsPlaceSoFar l.fn.bounds l.fn.index l.open l.given l.place

abbrev pub decreases-dimensions : goal.decreases-dimensions
decreases-dimensions l = length l.open
