use Rattle.std.proofs.Common.{◌-◌}
use Rattle.oa_ordered.proofs.Places.{IsBetween}
use Rattle.oa_ordered.proofs.branches.branch_for.Given as goal

abbrev pub invariant-halves : goal.invariant-halves
invariant-halves g l = IsBetween g.K.Ord.cmp l.key l.branches l.low l.high

abbrev pub decreases-halves : goal.decreases-halves
decreases-halves g l = l.high - l.low
