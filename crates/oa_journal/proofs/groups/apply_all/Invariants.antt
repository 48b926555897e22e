use Rattle.std.proofs.Common.{◌≡◌, length}
use Rattle.std.specs.List.{AllByRecursion}
use Rattle.std.specs.Vec.Iter.{into_iter_items, into_iter_len}
use Rattle.oa_table.specs.Events.{BringsNoLocks}
use Rattle.oa_journal.specs.promise.Bank.{applied_all}
use Rattle.oa_journal.proofs.groups.apply_all.Given as goal

-- what is made from here on is what is made from the start on
abbrev pub invariant-events : goal.invariant-events
invariant-events l = record {
  so_far : applied_all (into_iter_items l.event-iterator) l.table ≡ applied_all l.fn.events.items l.fn.table;
  locks : AllByRecursion BringsNoLocks (into_iter_items l.event-iterator);
  count : into_iter_len l.event-iterator ≡ length (into_iter_items l.event-iterator);
}
