use Rattle.std.proofs.Common.{◌∙◌, ◌<◌, length, subst, sym, arith}
use Rattle.oa_ordered.specs.Rows.{IsOrdered}
use Rattle.oa_ordered.proofs.Joined.{row_is}
use Rattle.oa_ordered.proofs.Places.{row_ordered}
use Rattle.oa_ordered.proofs.rows.place_of.Goals as goal

pub place-requires : goal.place-requires
place-requires g c =
    let rows = c.args.rows.now in
    let row = c.row-row.result in
    let lt : row < length rows = omega (arith, c.row-row.ensures.place, c.if-row-rows.false) in
    let read = c.as_slice.ensures ∙ row_is rows row c.index-rows-row.result c.index-rows-row.result lt c.index-rows-row.is in
    subst (IsOrdered g.K.Ord.cmp) (sym read) (row_ordered g.K.Ord.cmp g.met.K.Ord.total c.args.key.now rows c.requires.ordered row lt)
