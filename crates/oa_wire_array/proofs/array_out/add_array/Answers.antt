use Rattle.oa_wire_array.specs.promise.ArrayCanon.{put_array}
use Rattle.oa_wire_array.proofs.array_out.add_array.Goals as goal

pub returns-clause-ok : goal.returns-clause-ok
unfolding put_array
returns-clause-ok c =
    rw (
      c.in_ok-u32.ensures.ok,
      c.in_ok-write_bounds.ensures.ok,
      c.in_ok-write_size.ensures.ok,
      c.in_ok-write_shape.ensures.ok,
      c.elem-elem.ensures,
      c.bounds-bounds.ensures,
      c.cells-cells.ensures.value,
    ) at c.write_elements.ensures.ok
