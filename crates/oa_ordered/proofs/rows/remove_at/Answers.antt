use Rattle.std.proofs.Common.{◌≡◌, ◌∙◌, length, sym, ap}
use Rattle.std.proofs.lemmas.List.{get_or-set_same}
use Rattle.oa_ordered.proofs.Joined.{entry_split, filled_dropped, joined_dropped, removed, row_is}
use Rattle.oa_ordered.proofs.rows.remove_at.Goals as goal

pub returns-then-len-eq0-clause-entry : goal.returns-then-len-eq0-clause-entry
returns-then-len-eq0-clause-entry g c =
    let row = c.index_mut.result.now in
    let same = row_is c.args.rows.now.items c.args.place.row row row c.requires.row c.index_mut.ensures.value in
    entry_split c.args.rows.now.items c.args.place.row c.args.place.at c.remove-entry.result c.remove-entry.result c.requires.row c.requires.place
    (rw same at c.remove-entry.ensures.entry)

pub returns-else-len-eq0-clause-entry : goal.returns-else-len-eq0-clause-entry
returns-else-len-eq0-clause-entry g c =
    let row = c.index_mut.result.now in
    let same = row_is c.args.rows.now.items c.args.place.row row row c.requires.row c.index_mut.ensures.value in
    entry_split c.args.rows.now.items c.args.place.row c.args.place.at c.remove-entry.result c.remove-entry.result c.requires.row c.requires.place
    (rw same at c.remove-entry.ensures.entry)

pub returns-else-len-eq0-clause-rest : goal.returns-else-len-eq0-clause-rest
returns-else-len-eq0-clause-rest g c =
    let row = c.index_mut.result.now in
    let same = row_is c.args.rows.now.items c.args.place.row row row c.requires.row c.index_mut.ensures.value in
    rw (c.remove-entry.ensures.rest, same) (removed c.args.rows.now.items c.args.place.row c.args.place.at c.requires.row)

pub returns-then-len-eq0-clause-rest : goal.returns-then-len-eq0-clause-rest
returns-then-len-eq0-clause-rest g c =
    let rows = c.args.rows.now.items in
    let row = c.index_mut.result.now in
    let left = c.remove-entry.new.self in
    let same = row_is rows c.args.place.row row row c.requires.row c.index_mut.ensures.value in
    let read : c.index.result.now ≡ left = c.index.ensures ∙ get_or-set_same rows c.args.place.row left c.index.result.now c.requires.row in
    let none : length left ≡ 0 = ap length (sym read) ∙ (sym c.len.ensures ∙ c.if-len-eq0.true) in
    rw c.drop_row.ensures (joined_dropped rows c.args.place.row left c.requires.row none
    ∙ rw (c.remove-entry.ensures.rest, same) (removed rows c.args.place.row c.args.place.at c.requires.row))

pub returns-then-len-eq0-clause-filled : goal.returns-then-len-eq0-clause-filled
returns-then-len-eq0-clause-filled g c =
    rw c.drop_row.ensures (filled_dropped c.args.rows.now.items c.args.place.row c.remove-entry.new.self c.requires.row c.requires.filled)
