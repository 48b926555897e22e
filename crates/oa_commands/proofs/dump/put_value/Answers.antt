use Rattle.std.proofs.Common.{rules, ◌++◌}
use Rattle.std.specs.Prelude.{codes}
use Rattle.std.proofs.lemmas.Result.{err_from_is_err_and}
use Rattle.hex.specs.Hex.{encode_lower}
use Rattle.oa_formats.specs.promise.Variants.{value as a_value}
use Rattle.oa_stream.proofs.Stretches.{breaks_after, breaks_before}
use Rattle.oa_commands.specs.Dumps.{value_digits}
use Rattle.oa_commands.proofs.Dumped.{nothing_put, three}
use Rattle.oa_commands.proofs.dump.put_value.Goals as goal

pub returns-in_err-write_value-clause-broken : goal.returns-in_err-write_value-clause-broken
returns-in_err-write_value-clause-broken g c =
    let p = err_from_is_err_and c.from_residual.result c.from_residual.ensures.1 in
    rw (p.1, p.2) (nothing_put _ (value_digits c.args.value.now) (search rules))

pub returns-in_err-put-clause-broken : goal.returns-in_err-put-clause-broken
unfolding Rattle.oa_commands.specs.Dumps.value_digits
returns-in_err-put-clause-broken g c =
    let p = err_from_is_err_and c.from_residual-in_err-put.result c.from_residual-in_err-put.ensures.1 in
    rw (p.1, p.2) (breaks_before _ _ (codes " ") (encode_lower (a_value.image c.args.value.now) ++ codes "\n") c.in_err-put.ensures)

pub returns-in_err-put_hex-clause-broken : goal.returns-in_err-put_hex-clause-broken
unfolding Rattle.oa_commands.specs.Dumps.value_digits
returns-in_err-put_hex-clause-broken g c =
    let p = err_from_is_err_and c.from_residual-in_err-put_hex.result c.from_residual-in_err-put_hex.ensures.1 in
    rw (p.1, p.2) (breaks_after _ _ _ (codes " ") (encode_lower (a_value.image c.args.value.now) ++ codes "\n") c.in_ok-put.ensures
    (breaks_before _ _ (encode_lower (a_value.image c.args.value.now)) (codes "\n") (search rules)))

pub returns-in_err-put-2-clause-broken : goal.returns-in_err-put-2-clause-broken
unfolding Rattle.oa_commands.specs.Dumps.value_digits
returns-in_err-put-2-clause-broken g c =
    let p = err_from_is_err_and c.from_residual-in_err-put-2.result c.from_residual-in_err-put-2.ensures.1 in
    rw (p.1, p.2) (breaks_after _ _ _ (codes " ") (encode_lower (a_value.image c.args.value.now) ++ codes "\n") c.in_ok-put.ensures
    (breaks_after _ _ _ (encode_lower (a_value.image c.args.value.now)) (codes "\n") (search rules) c.in_err-put-2.ensures))

pub returns-clause-written : goal.returns-clause-written
unfolding Rattle.oa_commands.specs.Dumps.value_digits
returns-clause-written g c = three _ _ _ _ _ (encode_lower (a_value.image c.args.value.now)) _ c.in_ok-put.ensures (search rules) c.in_ok-put-2.ensures
