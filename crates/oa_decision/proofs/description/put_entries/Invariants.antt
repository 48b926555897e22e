use Rattle.std.proofs.Common.{◌≡◌, ◌++◌, take}
use Rattle.std.specs.List.{flat_map}
use Rattle.oa_decision.specs.promise.DescriptionFields.{entry_field}
use Rattle.oa_decision.proofs.description.put_entries.Given as goal

abbrev pub invariant-entries : goal.invariant-entries
invariant-entries l = l.out.items ≡ l.fn.out.items ++ flat_map entry_field (take l.entry-index l.entries)
