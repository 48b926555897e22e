use Rattle.std.proofs.Common.{◌≡◌, ◌+◌, ◌++◌, length, take}
use Rattle.oa_cells.proofs.cells.Cells.moved.Given as goal

abbrev pub invariant-cells : goal.invariant-cells
invariant-cells g l = record {
  before : l.part.before ≡ length l.old.items;
  after : l.part.after ≡ 0;
  all : l.old.items ++ l.part.items ≡ take l.fn.part.before l.fn.self ++ l.fn.part.items;
  len : l.len ≡ length l.old.items + length l.part.items;
}

abbrev pub decreases-cells : goal.decreases-cells
decreases-cells g l = length l.old.items
