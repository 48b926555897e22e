use Rattle.std.proofs.Common.{◌≡◌, map, take}
use Rattle.oa_typelib.specs.promise.Descriptions.{interfaces_of}
use Rattle.oa_typelib.proofs.index.interface_names.Given as goal

abbrev pub invariant-loop-item : goal.invariant-loop-item
invariant-loop-item l = map (λ n. n.now) l.names.items ≡ map (λ i. i.name) (interfaces_of (take l.item-index l.items))
