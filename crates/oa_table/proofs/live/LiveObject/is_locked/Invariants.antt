use Rattle.std.proofs.Common.{◌≡◌}
use Rattle.oa_table.specs.promise.Objects.{any_locked}
use Rattle.oa_table.proofs.live.LiveObject.is_locked.Given as goal

abbrev pub invariant-cells : goal.invariant-cells
invariant-cells l = any_locked l._place-iterator ≡ any_locked l.fn.self.cells
