use Rattle.std.proofs.Common.{sym}
use Rattle.std.proofs.lemmas.Result.{err_from_is_err_and}
use Rattle.oa_decision.proofs.Reached.{element_is, element_is_outside}
use Rattle.oa_decision.proofs.decider.array_cell.element_at.Goals as goal

pub returns : goal.returns
returns c = sym (element_is c.args.array.now c.args.index.now c.in_ok-element.field-0.now c.in_ok-element.ensures.0 c.in_ok-element.ensures.1)

pub returns-in_err-element : goal.returns-in_err-element
returns-in_err-element c =
    let told = err_from_is_err_and c.from_residual.result c.from_residual.ensures.1 in
    rw (told.1, told.2, c.in_err-element.ensures.1) (sym (element_is_outside c.args.array.now c.args.index.now c.in_err-element.ensures.0))
