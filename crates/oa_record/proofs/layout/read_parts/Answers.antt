use Rattle.std.proofs.Common.{sym}
use Rattle.std.proofs.lemmas.Result.{err_from_is_err_and}
use Rattle.oa_record.proofs.HeadLengths.{start_there}
use Rattle.oa_record.proofs.Header.{opcode_read, starves}
use Rattle.oa_record.proofs.layout.read_parts.Goals as goal

pub returns-in_err-parts-clause-memory : goal.returns-in_err-parts-clause-memory
returns-in_err-parts-clause-memory c =
    let p = err_from_is_err_and c.from_residual-in_err-parts.result c.from_residual-in_err-parts.ensures.1 in
    let at = opcode_read c.args.body.now _ _ _ _ _ _ (rw c.new-r.ensures at c.in_ok-u32.ensures) c.in_ok-number.ensures c.in_ok-u16.ensures in
    let long = start_there c.args.body.now _ _ _ _ _ _ (rw c.new-r.ensures at c.in_ok-u32.ensures) c.in_ok-number.ensures c.in_ok-u16.ensures in
    rw (p.1, p.2) (starves c.in_err-parts.field-0.0 c.args.body.now c.in_ok-number.number c.in-Some.opcode _ long at.1
    (sym c.in-Some.ensures) c.in_err-parts.ensures.memory)
