use Rattle.std.proofs.Common.{◌≡◌, map, take}
use Rattle.oa_sema.specs.Libraries.{folded_names}
use Rattle.oa_typelib.proofs.index.item_keys.Given as goal

abbrev pub invariant-loop-item : goal.invariant-loop-item
invariant-loop-item l = map (λ k. k.items) l.keys.items ≡ folded_names (take l.item-index l.items)
