use Rattle.std.proofs.Common.{◌++◌, arith, length, refl}
use Rattle.std.specs.Int.{to_le_bytes, w32}
use Rattle.oa_frame.proofs.Pieces.{two_pieces}
use borrow.Rule.Slice.PartMut.{post_of}
use Rattle.oa_frame.proofs.writing.lay_out.Goals as goal

pub returns : goal.returns
returns c =
    let told = c.told-head in
    rw (c.copy_from_slice.ensures.after, c.copy_from_slice-2.ensures.after, c.length_bytes.ensures)
    (two_pieces (to_le_bytes w32 (length (c.args.head.now ++ c.args.fields.now))) c.args.head.now (post_of 0 4 c.args.bytes.now) 4 20 refl
    (omega (arith, told)))
