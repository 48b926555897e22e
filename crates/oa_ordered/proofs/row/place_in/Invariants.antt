use Rattle.std.proofs.Common.{◌-◌, ◌≤◌, take, drop, length}
use Rattle.oa_ordered.specs.Rows.{AllAbove, AllBelow}
use Rattle.oa_ordered.proofs.row.place_in.Given as goal

abbrev pub invariant-halves : goal.invariant-halves
invariant-halves g l = record {
  middle : l.low ≤ l.high;
  inside : l.high ≤ length l.entries;
  below : AllBelow g.K.Ord.cmp l.key (take l.low l.entries);
  above : AllAbove g.K.Ord.cmp l.key (drop l.high l.entries);
}

abbrev pub decreases-halves : goal.decreases-halves
decreases-halves g l = l.high - l.low
