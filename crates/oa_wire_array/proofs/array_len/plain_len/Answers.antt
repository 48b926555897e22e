use Rattle.oa_wire_array.proofs.ArrayLengths.{size_is, width_bounds}
use Rattle.oa_wire_array.proofs.array_len.plain_len.Goals as goal

pub returns : goal.returns
returns c =
    let s = size_is c.args.elem c.requires.typed c.requires.plain in
    let b = width_bounds _ s.1 in
    rw (c.unwrap_or.ensures, c.element_size.ensures) (record { value = s.0; width = s.1; above = b.0; small = b.1 })
