use Rattle.std.proofs.Common.{◌≡◌, drop}
use Rattle.std.specs.List.{list_all}
use Rattle.oa_typelib.specs.promise.Descriptions.{interfaces_of}
use Rattle.oa_compat.specs.promise.Keeps.{keeps_entries, keeps_entry}
use Rattle.oa_compat.proofs.lost.keeps_entries.Given as goal

abbrev pub invariant-items : goal.invariant-items
invariant-items l =
    list_all (keeps_entry l.fn.new l.fn.now l.fn.was) (interfaces_of (drop l.at l.fn.old.items)) ≡ keeps_entries l.fn.new l.fn.old l.fn.now l.fn.was
