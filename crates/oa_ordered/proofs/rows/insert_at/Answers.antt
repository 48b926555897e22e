use Rattle.std.proofs.Common.{◌≡◌, []}
use Rattle.std.proofs.lemmas.Result.{on_ok_weaker}
use Rattle.oa_ordered.specs.Rows.{concat_rows, from}
use Rattle.oa_ordered.proofs.Joined.{put_last}
use Rattle.oa_ordered.proofs.rows.insert_at.Goals as goal

pub returns-then-is_past_full-clause-ok : goal.returns-then-is_past_full-clause-ok
returns-then-is_past_full-clause-ok g c =
    let rows = c.args.rows.now.items in
    let none : from rows c.args.place.row c.args.place.at ≡ [] = rw (← c.deref.ensures.value) (c.is_past_full.ensures.past c.if-is_past_full.true) in
    on_ok_weaker c.begin_row.result (put_last rows c.args.place.row c.args.place.at c.args.entry (concat_rows c.begin_row.new.rows.items) c.requires.row
    c.requires.place none) c.begin_row.ensures.ok
