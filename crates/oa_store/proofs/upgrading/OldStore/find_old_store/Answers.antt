use Rattle.std.proofs.lemmas.Result.{err_from_is_err_and}
use Rattle.oa_store.proofs.upgrading.OldStore.find_old_store.Goals as goal

pub returns-in_err-chosen-clause-refused : goal.returns-in_err-chosen-clause-refused
returns-in_err-chosen-clause-refused g c =
    let p = err_from_is_err_and c.from_residual.result c.from_residual.ensures.1 in
    rw (p.1, p.2) (c.in_err-chosen.ensures.refused c.args.size)
