use Rattle.std.proofs.Common.{◌≡◌, true, false, ◌∙◌}
use Rattle.oa_image.specs.promise.Tables.{cell, place_before}
use Rattle.oa_image.specs.Reader.{is_behind}
use Rattle.oa_image.proofs.Taken.{refused}
use Rattle.oa_image.proofs.reader.next_cell.Goals as goal

pub returns : goal.returns
returns c =
    let found = rw c.in-Some.is at c.in_ok-cell.ensures in
    refused cell (λ next. is_behind place_before c.args.cells.now next ≡ true) c.args.bytes.now c.in-Some.cell c.in-Some.len found.0 found.3
    (λ p. let e : false ≡ true = c.if-stands_behind.ensures ∙ p in absurd cc)
