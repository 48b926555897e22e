use Rattle.std.proofs.Common.{◌≡◌, ◌↔◌, ◌<◌, ◌≤◌, ◌+◌, ◌-◌, ℕ, List, IsTrue, length, slice_index, Ok}
use Rattle.oa_journal.specs.promise.Bank.{from_place, ReplaysAll}
use Rattle.oa_journal.specs.promise.Damages.{AreGroupsTo}
use Rattle.oa_journal.specs.ReadCalls.{IsAhead, IsStored}
use Rattle.oa_journal.specs.Reads.{AfterReads}
use Rattle.oa_journal.proofs.reading.read_groups.Given as goal

-- the groups so far make the table so far, nothing was written, and no call failed
abbrev pub invariant-groups : goal.invariant-groups
invariant-groups g l = record {
  behind : l.from ≤ l.at;
  inside : l.at < l.size;
  stored : IsStored l.table;
  kept : length l.ahead.buffer.items ≡ length l.fn.buffer.items;
  so_far : IsTrue (g.D.Disk.is_honest l.disk) → (before : List (List ℕ)) × AreGroupsTo (from_place l.body (g.D.Disk.contents l.fn.disk)) l.from before l.at
      × ReplaysAll before l.fn.first l.table;
  gate : IsTrue (g.D.Disk.is_honest l.disk) → IsTrue l.opened ↔ (slice_index (g.D.Disk.contents l.fn.disk) (l.body + l.at) ≡ 1);
  ahead : IsAhead g.D.Disk l.disk l.ahead;
  after : AfterReads {T = Unit {0}} g.D.Disk (2 + (l.at - l.from)) l.fn.disk l.disk (Ok tt);
}

abbrev pub decreases-groups : goal.decreases-groups
decreases-groups g l = l.size - l.at
