use Rattle.std.proofs.Common.{◌∙◌, ◌<◌, ◌/◌, ◌%◌, [], length, slice_index_or, sym, ap, rules, arith}
use Rattle.oa_ordered.proofs.Joined.{row_is}
use Rattle.oa_ordered.proofs.Places.{found_there}
use Rattle.oa_ordered.proofs.rows.place_near.Goals as goal

pub returns-in-Equal-clause-found : goal.returns-in-Equal-clause-found
returns-in-Equal-clause-found g c =
    let rows = c.args.rows.now in
    let row = c.args.near / 64 in
    let at = c.args.near % 64 in
    let lt : row < length rows = search rules in
    let read = c.as_slice-entries.ensures ∙ row_is rows row c.index-rows-row.result c.index-rows-row.result lt c.index-rows-row.is in
    let inside : at < length c.as_slice-entries.result.now = search rules in
    let in_row : at < length (slice_index_or rows row []) = grind (arith, inside, ap length read) in
    found_there g.K.Ord.cmp g.met.K.Ord.total c.args.key.now rows c.requires.ordered row at _ c.index-entries-at.result lt in_row
    (ap (λ es. slice_index_or es at c.index-entries-at.result) read) (sym c.in-Equal.ensures)
