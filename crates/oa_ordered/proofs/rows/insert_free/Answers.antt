use Rattle.std.proofs.lemmas.Result.{on_ok_weaker}
use Rattle.oa_ordered.proofs.Joined.{inserted_row}
use Rattle.oa_ordered.proofs.rows.insert_free.Goals as goal

pub returns-clause-ok : goal.returns-clause-ok
returns-clause-ok g c =
    let rows = c.args.rows.now.items in
    let row = c.index_mut.result.now in
    on_ok_weaker c.insert.result (inserted_row rows c.args.place.row c.args.place.at c.args.entry row c.insert.new.self row c.requires.row
    c.index_mut.ensures.value) c.insert.ensures.ok
