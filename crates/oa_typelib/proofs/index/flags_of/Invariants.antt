use Rattle.std.proofs.Common.{◌≡◌, is_some, map, take}
use Rattle.oa_typelib.specs.Indexes.{first_in}
use Rattle.oa_typelib.proofs.index.flags_of.Given as goal

abbrev pub invariant-loop-key : goal.invariant-loop-key
invariant-loop-key l = l.flags.items ≡ map (λ k. is_some (first_in l.groups k.items)) (take l.key-index l.keys)
