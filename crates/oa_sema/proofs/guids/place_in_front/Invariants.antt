use Rattle.std.specs.Prelude.{◌≤◌}
use Rattle.std.specs.List.{position_or_len}
use Rattle.oa_sema.specs.promise.Libraries.{item_guid, same}
use Rattle.oa_sema.proofs.guids.place_in_front.Given as goal

abbrev pub invariant-items : goal.invariant-items
invariant-items l = l.place ≤ position_or_len (λ i. same l.guid (item_guid i)) l.items
