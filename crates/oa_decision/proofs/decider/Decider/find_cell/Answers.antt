use Rattle.std.proofs.lemmas.Result.{err_from_is_err_and}
use Rattle.oa_decision.proofs.Disconnected.{no_cell}
use Rattle.oa_decision.proofs.decider.Decider.find_cell.Goals as goal

pub returns-in_err-object-clause-cell : goal.returns-in_err-object-clause-cell
returns-in_err-object-clause-cell c =
    let p = err_from_is_err_and c.from_residual.result c.from_residual.ensures.1 in
    let why = c.in_err-object.ensures.refused in
    rw (p.1, p.2) (no_cell c.args.self.now c.args.call _ why.0 why.1 c.args.access)
