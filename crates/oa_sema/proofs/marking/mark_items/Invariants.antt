use Rattle.std.proofs.Common.{◌≡◌, map, take, drop}
use Rattle.oa_sema.specs.promise.Libraries.{marked_item}
use Rattle.oa_sema.proofs.marking.mark_items.Given as goal

abbrev pub invariant-loop-item : goal.invariant-loop-item
invariant-loop-item l = record {
  done : take l.item-index l.items ≡ map marked_item (take l.item-index l.fn.items);
  left : drop l.item-index l.items ≡ drop l.item-index l.fn.items;
}
