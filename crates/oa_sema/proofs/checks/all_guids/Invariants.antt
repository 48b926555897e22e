use Rattle.std.proofs.Common.{◌≡◌, ◌∷◌, map, take}
use Rattle.oa_sema.specs.promise.Libraries.{item_guid}
use Rattle.oa_sema.proofs.checks.all_guids.Given as goal

abbrev pub invariant-loop-item : goal.invariant-loop-item
invariant-loop-item l = l.guids.items ≡ l.fn.library ∷ map item_guid (take l.item-index l.items)
