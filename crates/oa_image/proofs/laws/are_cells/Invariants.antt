use Rattle.std.proofs.Common.{map}
use Rattle.std.specs.List.{AllByRecursion}
use Rattle.oa_table.specs.promise.Tables.{unlocked_cell}
use Rattle.oa_image.specs.promise.Tables.{cell}
use Rattle.oa_image.proofs.laws.are_cells.Given as goal

-- if it is true of those that are left, it is true of all
abbrev pub invariant-cells : goal.invariant-cells
invariant-cells l = AllByRecursion cell.Is (map unlocked_cell l.place-iterator) → AllByRecursion cell.Is (map unlocked_cell l.fn.object.cells)
