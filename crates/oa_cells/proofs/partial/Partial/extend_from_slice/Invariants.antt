use Rattle.std.proofs.Common.{◌≡◌, ◌+◌, ◌-◌, ◌≤◌, ◌++◌, length, take}
use Rattle.oa_cells.proofs.partial.Partial.extend_from_slice.Given as goal

abbrev pub invariant-items : goal.invariant-items
invariant-items g l = record {
  before : l.self.before ≡ l.fn.self.before;
  copied : l.self.items ≡ l.fn.self.items ++ take l.index l.items;
  after : l.self.after + l.index ≡ l.fn.self.after;
  within : l.index ≤ length l.items;
  same : l.items ≡ l.fn.items;
}

abbrev pub decreases-items : goal.decreases-items
decreases-items g l = length l.items - l.index
