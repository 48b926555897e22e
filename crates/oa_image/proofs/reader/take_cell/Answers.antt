use Rattle.std.proofs.Common.{◌≡◌, true, take, ◌∙◌}
use Rattle.oa_image.specs.promise.Tables.{cell, place_before}
use Rattle.oa_image.specs.Reader.{is_behind, table_taken, with_at_hand}
use Rattle.oa_image.proofs.Behind.{cell_comes}
use Rattle.oa_image.proofs.InMemory.{cell_bytes}
use Rattle.oa_image.proofs.Taken.{cell_opens, cell_taken, comes, nothing_comes, stays}
use Rattle.oa_image.proofs.reader.take_cell.Goals as goal

pub returns-in_default-clause-takes : goal.returns-in_default-clause-takes
returns-in_default-clause-takes c =
    let t = c.args.table.now in
    let o = c.args.object in
    let bytes = c.args.bytes.now in
    let none = rw (c.deref.ensures.value, c.in_default.is) at c.in_ok-cell.ensures in
    stays (with_at_hand o t) bytes (nothing_comes cell (λ next. is_behind place_before o.cells.items next ≡ true) (table_taken (with_at_hand o t)) bytes none
    (λ whole is e. cell_comes t o bytes whole c.requires.between.0 c.requires.between.1 is e))

pub keep-requires-clause-valid : goal.keep-requires-clause-valid
keep-requires-clause-valid c =
    let found = rw (c.deref.ensures.value, c.in-Some.is) at c.in_ok-cell.ensures in
    cell_opens c.args.table.now c.args.object c.push.new.self c.in-Some.cell c.requires.between.1 c.in_ok-push.ensures.items c.requires.between.0 found.0
    found.1

pub returns-clause-takes : goal.returns-clause-takes
returns-clause-takes c =
    let t = c.args.table.now in
    let o = c.args.object in
    let bytes = c.args.bytes.now in
    let found = rw (c.deref.ensures.value, c.in-Some.is) at c.in_ok-cell.ensures in
    comes (with_at_hand o t) c.keep.new.table bytes (cell.image c.in-Some.cell) c.in-Some.len found.2 found.3 (cell_bytes c.in-Some.cell)
    (c.in_ok-keep.ensures.taken ∙ cell_taken t o c.push.new.self c.in-Some.cell c.requires.between.1 c.in_ok-push.ensures.items
    (take c.in-Some.len bytes) found.3)
