use Rattle.std.proofs.Common.{◌≡◌, ◌+◌, ◌*◌, ◌++◌, length}
use Rattle.std.specs.List.{flat_map}
use Rattle.oa_decision.specs.promise.Listing.{entry_of}
use Rattle.oa_decision.proofs.decider.listing.put_objects.Given as goal

abbrev pub invariant-objects : goal.invariant-objects
invariant-objects l = record {
  written : l.out.items ++ flat_map entry_of l.number-iterator ≡ l.fn.out.items ++ flat_map entry_of l.fn.table.objects;
  counted : length l.out.items + 24 * length l.number-iterator ≡ length l.fn.out.items + 24 * length l.fn.table.objects;
}
