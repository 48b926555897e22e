use Rattle.std.proofs.Common.{◌≡◌, ◌-◌, length, take}
use Rattle.std.specs.List.{AllByRecursion}
use Rattle.oa_ndr.specs.promise.Reading.{many}
use Rattle.oa_ndr.proofs.Loop.{with_front}
use Rattle.oa_variant.specs.promise.Scalars.{FitsType}
use Rattle.oa_formats.specs.promise.Arrays.{cell_of}
use Rattle.oa_formats.proofs.array.read_cells.Given as goal

abbrev pub invariant-cells : goal.invariant-cells
invariant-cells l = record {
  len : length l.cells ≡ l.count;
  read : with_front (take l.i l.cells) (many (cell_of l.elem).read (l.count - l.i) l.r) ≡ many (cell_of l.elem).read l.count l.fn.r;
  fits : AllByRecursion (λ s. FitsType s l.elem) (take l.i l.cells);
}
