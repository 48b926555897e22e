use Rattle.std.proofs.Common.{◌≡◌, drop}
use Rattle.std.specs.List.{flat_map}
use Rattle.oa_formats.specs.promise.Arrays.{cell_of}
use Rattle.oa_formats.specs.Windows.{showing, added}
use Rattle.oa_formats.proofs.array.put_cells.Given as goal

abbrev pub invariant-cells : goal.invariant-cells
invariant-cells l =
    added (showing l.w l.out) (flat_map (cell_of l.elem).image (drop l.s-index l.cells))
    ≡ added (showing l.fn.w l.fn.out) (flat_map (cell_of l.elem).image l.cells)
