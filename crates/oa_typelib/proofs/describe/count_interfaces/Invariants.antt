use Rattle.std.proofs.Common.{◌≡◌, ◌≤◌, length, take}
use Rattle.oa_typelib.specs.promise.Descriptions.{interfaces_of}
use Rattle.oa_typelib.proofs.describe.count_interfaces.Given as goal

abbrev pub invariant-loop-item : goal.invariant-loop-item
invariant-loop-item l = record {
  count : l.count ≡ length (interfaces_of (take l.item-index l.items));
  bound : l.count ≤ l.item-index;
}
