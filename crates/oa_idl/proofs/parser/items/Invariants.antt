use Rattle.std.proofs.Common.{◌-◌, ◌≤◌}
use Rattle.oa_idl.specs.promise.Grammar.{no_items}
use Rattle.oa_idl.proofs.Loop.{ItemsRead, so_far_read}
use Rattle.oa_idl.proofs.parser.items.Given as goal

abbrev pub invariant-loop : goal.invariant-loop
invariant-loop l = record {
  so_far : ItemsRead l.all.items (l.room - l.counter) l.seen l.r (so_far_read l.room no_items l.fn.r);
  interfaces : l.seen.interfaces ≤ l.counter;
  coclasses : l.seen.coclasses ≤ l.counter;
}
