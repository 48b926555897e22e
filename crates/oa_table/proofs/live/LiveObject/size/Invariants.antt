use Rattle.std.proofs.Common.{◌≡◌, ◌+◌, ◌*◌, ◌≤◌, length}
use Rattle.std.specs.List.{sum_by}
use Rattle.oa_table.specs.promise.Sizes.{cell_size}
use Rattle.oa_table.specs.Sizes.{largest_cell, largest_object}
use Rattle.oa_table.proofs.live.LiveObject.size.Given as goal

abbrev pub invariant-cells : goal.invariant-cells
invariant-cells l = record {
  value : l.size + sum_by cell_size l.place-iterator ≡ 24 + sum_by cell_size l.fn.self.cells;
  small : l.size + largest_cell * length l.place-iterator ≤ largest_object;
}
