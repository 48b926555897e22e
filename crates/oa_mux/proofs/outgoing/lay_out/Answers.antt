use Rattle.std.proofs.Common.{◌+◌, ◌++◌, arith, length, refl}
use Rattle.std.specs.Int.{to_le_bytes, w32}
use borrow.Rule.Slice.PartMut.{post_of}
use Rattle.oa_frame.proofs.Pieces.{two_pieces}
use Rattle.oa_mux.specs.promise.Frames.{frame_head}
use Rattle.oa_mux.proofs.outgoing.lay_out.Goals as goal

pub returns : goal.returns
returns c =
    let n = 16 + length c.args.fields.now in
    let told = c.told-head in
    rw (c.copy_from_slice.ensures.after, c.copy_from_slice-2.ensures.after, c.lengths.ensures)
    (two_pieces (frame_head c.args.client (4 + n) ++ to_le_bytes w32 n) c.args.head.now (post_of 0 12 c.args.bytes.now) 12 28 refl (omega (arith, told)))
