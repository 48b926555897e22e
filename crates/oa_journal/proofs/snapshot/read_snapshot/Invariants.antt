use Rattle.std.proofs.Common.{◌≡◌, ◌+◌, ◌-◌, ◌++◌, IsTrue, [], length}
use Rattle.oa_disk.specs.Disk.{HasBytesAt}
use Rattle.oa_image.specs.promise.Tables.{table, table_image}
use Rattle.oa_table.specs.promise.Tables.{TableValue}
use Rattle.oa_journal.proofs.Stretches.{HasRead}
use Rattle.oa_journal.proofs.snapshot.read_snapshot.Given as goal

-- the reader has taken the first of the bytes that were passed, and the others stand in the window
abbrev pub invariant-stretches : goal.invariant-stretches
invariant-stretches g l = record {
  long : length (l.reader ++ l.window.items) + l.left ≡ l.fn.count;
  there : IsTrue (g.D.Disk.is_honest l.disk) → HasBytesAt (g.D.Disk.contents l.fn.disk) l.fn.at (l.reader ++ l.window.items);
  whole : (first : TableValue) → table.Is first → l.reader ++ l.window.items ≡ table_image first → l.window.items ≡ [];
  read : HasRead g.D.Disk l.fn.disk l.disk (l.fn.count - l.left) l.left;
}

abbrev pub decreases-stretches : goal.decreases-stretches
decreases-stretches g l = l.left
