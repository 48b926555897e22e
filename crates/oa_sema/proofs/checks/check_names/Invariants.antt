use Rattle.std.proofs.Common.{◌≡◌, [], map, take, drop}
use Rattle.oa_model.specs.promise.Folding.{folded_name}
use Rattle.oa_sema.specs.promise.Breaches.{item_breach}
use Rattle.oa_sema.specs.promise.Libraries.{item_name}
use Rattle.oa_sema.specs.promise.Repeats.{first_after}
use Rattle.oa_sema.proofs.checks.check_names.Given as goal

abbrev pub invariant-loop-item : goal.invariant-loop-item
invariant-loop-item l = record {
  names : l.seen ≡ map (λ i. folded_name (item_name i)) (take l.item-index l.items);
  left : first_after item_breach [] l.items ≡ first_after item_breach (take l.item-index l.items) (drop l.item-index l.items);
}
