use Rattle.std.proofs.Common.{length-set, ◌∙◌, arith}
use Rattle.oa_variant.specs.promise.Scalars.{FitsType}
use Rattle.oa_variant.specs.declared.scalar.Scalar.{Scalar}
use Rattle.oa_formats.specs.promise.Arrays.{cell_of}
use Rattle.oa_formats.proofs.Loops.{cells_put, all_put}
use Rattle.oa_formats.proofs.array.read_cells.Goals as goal

pub cells-preserved : goal.cells-preserved
cells-preserved c =
    let len = length-set {A = Scalar} c.cells.cells c.cells.i c.in_ok-next.next in
    rw c.replace.ensures.cells record {
      len = len ∙ c.cells.invariant.len;
      read = cells_put (cell_of c.args.elem).read c.cells.cells c.args.count c.cells.i c.cells.r c.read_cell.new.r c.in_ok-next.next _ c.cells.invariant.len
          c.cells-test.true c.in_ok-next.ensures.read c.cells.invariant.read;
      fits = all_put (λ s. FitsType s c.args.elem) c.cells.cells c.cells.i c.in_ok-next.next (omega (arith, c.cells.invariant.len, c.cells-test.true))
          c.in_ok-next.ensures.fits c.cells.invariant.fits;
    }
