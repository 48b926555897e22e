use Rattle.std.proofs.Common.{◌≡◌, map, take}
use Rattle.oa_typelib.specs.Indexes.{members_in}
use Rattle.oa_typelib.proofs.index.all_members.Given as goal

abbrev pub invariant-loop-item : goal.invariant-loop-item
invariant-loop-item l = l.members.items ≡ map members_in (take l.item-index l.items)
