use Rattle.std.proofs.lemmas.Result.{err_from_is_err_and}
use Rattle.oa_commands.proofs.Dumped.{delivered}
use Rattle.oa_commands.proofs.Printed.{kept_back}
use Rattle.oa_commands.proofs.dump.put_dump.Goals as goal

pub returns-clause-written : goal.returns-clause-written
returns-clause-written g c = delivered _ _ _ _ c.in_ok-put_either.ensures.written c.in_ok-deliver.ensures.0

pub returns-in_err-put_either-clause-broken : goal.returns-in_err-put_either-clause-broken
returns-in_err-put_either-clause-broken g c =
    let p = err_from_is_err_and c.from_residual.result c.from_residual.ensures.1 in
    rw (p.1, p.2) c.in_err-put_either.ensures.broken

pub returns-in_err-deliver-clause-broken : goal.returns-in_err-deliver-clause-broken
returns-in_err-deliver-clause-broken g c =
    let p = err_from_is_err_and c.from_residual-in_err-deliver.result c.from_residual-in_err-deliver.ensures.1 in
    rw (p.1, p.2) (kept_back _ _ _ _ c.in_ok-put_either.ensures.written c.in_err-deliver.ensures)
