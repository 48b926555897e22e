use Rattle.std.proofs.Common.{rules}
use Rattle.std.proofs.lemmas.Result.{err_from_is_err_and}
use Rattle.oa_commands.specs.Dumps.{key_digits}
use Rattle.oa_commands.proofs.Dumped.{nothing_put}
use Rattle.oa_commands.proofs.dump.put_key.Goals as goal

pub returns-in_err-write_key-clause-broken : goal.returns-in_err-write_key-clause-broken
returns-in_err-write_key-clause-broken g c =
    let p = err_from_is_err_and c.from_residual-in_err-write_key.result c.from_residual-in_err-write_key.ensures.1 in
    rw (p.1, p.2) (nothing_put _ (key_digits c.args.key.now) (search rules))
