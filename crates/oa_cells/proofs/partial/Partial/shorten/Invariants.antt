use Rattle.std.proofs.Common.{◌≡◌, ◌+◌, ◌≤◌, length, take}
use Rattle.oa_cells.proofs.partial.Partial.shorten.Given as goal

abbrev pub invariant-loop-self : goal.invariant-loop-self
invariant-loop-self g l = record {
  enough : l.keep ≤ length l.self.items;
  kept : take l.keep l.self.items ≡ take l.keep l.fn.self.items;
  before : l.self.before ≡ l.fn.self.before;
  places : l.self.after + length l.self.items ≡ l.fn.self.after + length l.fn.self.items;
  same : l.keep ≡ l.fn.keep;
}

abbrev pub decreases-loop-self : goal.decreases-loop-self
decreases-loop-self g l = length l.self.items
