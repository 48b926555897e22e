use Rattle.std.proofs.Common.{◌≡◌, take}
use Rattle.std.specs.List.{filter_map}
use Rattle.oa_typelib.specs.Indexes.{entry_in}
use Rattle.oa_typelib.proofs.describe.entries.Given as goal

abbrev pub invariant-loop-one : goal.invariant-loop-one
invariant-loop-one l = l.all.items ≡ filter_map (entry_in l.index.interfaces) (take l.one-index l.entries)
