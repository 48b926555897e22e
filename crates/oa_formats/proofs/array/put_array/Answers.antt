use Rattle.std.proofs.Common.{arith}
use Rattle.oa_formats.proofs.array.put_array.Goals as goal

pub overflow_cast-bounds : goal.overflow_cast-bounds
overflow_cast-bounds c = rw c.bounds-bounds.ensures (omega (arith, c.cells-cells.ensures.array.shape.few))
