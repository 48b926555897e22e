use Rattle.std.proofs.Common.{◌≡◌, map, take}
use Rattle.oa_typelib.specs.Indexes.{default_in}
use Rattle.oa_typelib.proofs.defaults.find_defaults.Given as goal

abbrev pub invariant-loop-item : goal.invariant-loop-item
invariant-loop-item l = l.places.items ≡ map (default_in l.names) (take l.item-index l.items)
