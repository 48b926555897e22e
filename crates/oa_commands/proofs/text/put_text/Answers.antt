use Rattle.std.proofs.Common.{refl}
use Rattle.std.proofs.lemmas.Result.{err_from_is_err_and}
use Rattle.oa_commands.proofs.Dumped.{delivered}
use Rattle.oa_commands.proofs.Printed.{kept_back}
use Rattle.oa_commands.proofs.text.put_text.Goals as goal

pub returns-clause-written : goal.returns-clause-written
returns-clause-written g c = delivered _ _ _ _ c.in_ok-put.ensures c.in_ok-deliver.ensures.0

pub returns-in_err-deliver-clause-broken : goal.returns-in_err-deliver-clause-broken
returns-in_err-deliver-clause-broken g c =
    let p = err_from_is_err_and c.from_residual-in_err-deliver.result c.from_residual-in_err-deliver.ensures.1 in
    rw (p.1, p.2) (refl, kept_back _ _ _ _ c.in_ok-put.ensures c.in_err-deliver.ensures)
