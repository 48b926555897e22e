use Rattle.std.specs.List.{flat_map}
use Rattle.oa_formats.specs.promise.Arrays.{cell_of}
use Rattle.oa_formats.specs.Windows.{showing, added}
use Rattle.oa_formats.proofs.Loops.{images_go_on, images_end}
use Rattle.oa_formats.proofs.array.put_cells.Goals as goal

pub cells-preserved : goal.cells-preserved
cells-preserved c =
    let image = (cell_of c.args.elem).image in
    images_go_on image c.args.cells.now c.cells.s-index c.s-item.result (showing c.cells.w c.cells.out) _
    (added (showing c.args.w.now c.args.out.now) (flat_map image c.args.cells.now)) c.cells-test.true c.s-item.is c.put_cell.ensures c.cells.invariant

pub returns : goal.returns
returns c =
    let image = (cell_of c.args.elem).image in
    images_end image c.args.cells.now c.cells.s-index (showing c.cells.w c.cells.out)
    (added (showing c.args.w.now c.args.out.now) (flat_map image c.args.cells.now)) c.cells-test.false c.cells.invariant
