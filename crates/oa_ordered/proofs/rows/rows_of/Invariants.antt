use Rattle.std.proofs.Common.{◌≡◌, ◌++◌, length}
use Rattle.std.specs.Prelude.{reverse}
use Rattle.oa_ordered.specs.Rows.{AreFilled, concat_rows}
use Rattle.oa_ordered.proofs.rows.rows_of.Given as goal

abbrev pub invariant-rows : goal.invariant-rows
invariant-rows g l = record {
  same : l.left ++ concat_rows (reverse l.rows.items) ≡ l.fn.entries.items;
  filled : AreFilled (reverse l.rows.items);
}

abbrev pub decreases-rows : goal.decreases-rows
decreases-rows g l = length l.left
