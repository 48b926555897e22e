use Rattle.std.proofs.Common.{◌∙◌, Option, Some, sym, ap}
use Rattle.oa_ordered.proofs.InRow.{row_absent, row_insert, row_put, row_read}
use Rattle.oa_ordered.proofs.Joined.{on_err_always}
use Rattle.oa_ordered.proofs.root.Root.insert.Goals as goal

abbrev some : {X : Type 0} → X → Option X
some x = Some x

-- the key is there
pub returns-in-Ok-clause-old : goal.returns-in-Ok-clause-old
returns-in-Ok-clause-old g c =
    rw c.in-One.is (ap some c.replace.ensures.value
    ∙ (sym c.value_mut.ensures.value ∙ row_read g.K.Ord.cmp c.args.key c.in-One.row c.as_slice.ensures c.in-Ok.at c.in-Ok.ensures.found))

pub returns-in-Ok-clause-entries : goal.returns-in-Ok-clause-entries
returns-in-Ok-clause-entries g c =
    rw (c.in-One.is, c.replace.ensures.after) (row_insert g.K.Ord.cmp c.args.key c.in-One.row c.as_slice.ensures c.in-Ok.at c.in-Ok.ensures.found c.args.value)

-- it is not
pub returns-in_err-insert-in-Err-clause-absent : goal.returns-in_err-insert-in-Err-clause-absent
returns-in_err-insert-in-Err-clause-absent g c =
    rw c.in-One.is (on_err_always c.from_residual.result
    (row_absent g.K.Ord.cmp c.args.key c.in-One.row c.as_slice.ensures c.in-Err.at c.in-Err.ensures.absent))

pub returns-in_ok-insert-in-Err-clause-old : goal.returns-in_ok-insert-in-Err-clause-old
returns-in_ok-insert-in-Err-clause-old g c =
    rw c.in-One.is (sym (row_absent g.K.Ord.cmp c.args.key c.in-One.row c.as_slice.ensures c.in-Err.at c.in-Err.ensures.absent))

pub returns-in_ok-insert-in-Err-clause-entries : goal.returns-in_ok-insert-in-Err-clause-entries
returns-in_ok-insert-in-Err-clause-entries g c =
    rw c.in-One.is (c.split_long_row.ensures.same
    ∙ (c.in_ok-insert-in-Err.ensures.ok ∙ row_put g.K.Ord.cmp c.args.key c.in-One.row c.as_slice.ensures c.in-Err.at c.in-Err.ensures.absent c.args.value))
