use Rattle.std.proofs.Common.{◌≡◌, ◌+◌, ◌-◌, ◌≤◌, length}
use Rattle.std.specs.Prelude.{Ok}
use Rattle.std.specs.Array.{index_steps}
use Rattle.std.specs.Iterator.{CallableAtEachTurn}
use Rattle.std.specs.List.{FoldsTo, enumerate_from}
use Rattle.oa_cells.proofs.fill.fill_to_end.Given as goal

abbrev pub invariant-turns : goal.invariant-turns
invariant-turns g l = record {
  before : l.part.before ≡ l.fn.from;
  count : l.fn.from + length l.part.items ≡ l.index;
  after : l.part.after ≡ l.fn.to - l.index;
  end : l.to ≡ l.fn.to;
  within : l.index ≤ l.fn.to;
  calls : FoldsTo (λ f cell h. goal.F-step g f cell.0 (Ok cell.1) h) l.fn.fill (enumerate_from l.fn.from l.part.items) l.fill;
  callable : CallableAtEachTurn (index_steps l.fn.to) (λ p i q. (x : g.row.T.Denot) × goal.F-step g p i (Ok x) q) (λ p i. goal.F-pre g p i) l.index l.fill;
}

abbrev pub decreases-turns : goal.decreases-turns
decreases-turns g l = l.fn.to - l.index
