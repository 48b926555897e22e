use Rattle.std.proofs.Common.{◌∙◌, sym}
use Rattle.oa_ordered.proofs.InRow.{row_absent, row_gap_remove, row_lookup, row_remove}
use Rattle.oa_ordered.proofs.root.Root.remove.Goals as goal

pub returns-in-Ok-clause-value : goal.returns-in-Ok-clause-value
returns-in-Ok-clause-value g c =
    rw c.in-One.is (sym (row_lookup g.K.Ord.cmp c.args.key.now c.in-One.row c.as_slice.ensures c.in-Ok.at c.in-Ok.ensures.found c.remove-key.result
    c.remove-key.result c.remove-key.ensures.entry))

pub returns-in-Ok-clause-entries : goal.returns-in-Ok-clause-entries
returns-in-Ok-clause-entries g c =
    rw c.in-One.is (c.remove-key.ensures.rest ∙ row_remove g.K.Ord.cmp c.args.key.now c.in-One.row c.as_slice.ensures c.in-Ok.at c.in-Ok.ensures.found)

pub returns-in-Err-clause-value : goal.returns-in-Err-clause-value
returns-in-Err-clause-value g c =
    rw c.in-One.is (sym (row_absent g.K.Ord.cmp c.args.key.now c.in-One.row c.as_slice.ensures c.in-Err.field-0 c.in-Err.ensures.absent))

pub returns-in-Err-clause-entries : goal.returns-in-Err-clause-entries
returns-in-Err-clause-entries g c =
    rw c.in-One.is (sym (row_gap_remove g.K.Ord.cmp c.args.key.now c.in-One.row c.as_slice.ensures c.in-Err.field-0 c.in-Err.ensures.absent))
