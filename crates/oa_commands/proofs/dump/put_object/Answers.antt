use Rattle.std.proofs.Common.{rules}
use Rattle.std.proofs.lemmas.Result.{err_from_is_err_and}
use Rattle.oa_commands.specs.Dumps.{object_line}
use Rattle.oa_commands.proofs.Dumped.{nothing_put}
use Rattle.oa_commands.proofs.dump.put_object.Goals as goal

pub returns-in_err-head-clause-broken : goal.returns-in_err-head-clause-broken
returns-in_err-head-clause-broken g c =
    let p = err_from_is_err_and c.from_residual.result c.from_residual.ensures.1 in
    rw (p.1, p.2) (nothing_put _ (object_line c.args.number c.args.object.now) (search rules))
