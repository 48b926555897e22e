use Rattle.std.proofs.Common.{◌≡◌, ◌++◌, length}
use Rattle.std.specs.Prelude.{reverse}
use Rattle.oa_ordered.specs.Rows.{AreFilled, concat_rows}
use Rattle.oa_ordered.proofs.branches.branches_of.Given as goal

abbrev pub invariant-rows : goal.invariant-rows
invariant-rows g l = record {
  same : l.left ++ concat_rows (reverse l.branches.items) ≡ concat_rows l.fn.rows.items;
  filled : AreFilled (reverse l.branches.items);
}

abbrev pub decreases-rows : goal.decreases-rows
decreases-rows g l = length l.left
