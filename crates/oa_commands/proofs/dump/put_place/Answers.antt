use Rattle.std.proofs.Common.{rules}
use Rattle.std.proofs.lemmas.Result.{err_from_is_err_and}
use Rattle.oa_stream.proofs.Stretches.{breaks_before}
use Rattle.oa_commands.specs.Dumps.{cell_place, cell_start, key_digits}
use Rattle.oa_commands.proofs.Dumped.{nothing_put, then_if, then_off}
use Rattle.oa_commands.proofs.dump.put_place.Goals as goal

pub returns-in_err-start-clause-broken : goal.returns-in_err-start-clause-broken
returns-in_err-start-clause-broken g c =
    let p = err_from_is_err_and c.from_residual.result c.from_residual.ensures.1 in
    rw (p.1, p.2) (nothing_put _ (cell_place c.args.place.now) (search rules))

pub returns-in_err-put-clause-broken : goal.returns-in_err-put-clause-broken
returns-in_err-put-clause-broken g c =
    let p = err_from_is_err_and c.from_residual-in_err-put.result c.from_residual-in_err-put.ensures.1 in
    rw (p.1, p.2) (breaks_before _ _ (cell_start c.args.place.now.interface c.args.place.now.dispid) (key_digits c.args.place.now.key) (search rules))

pub returns-clause-written : goal.returns-clause-written
returns-clause-written g c = then_if c.put_key.result _ (g.W.Sink.out c.put.new.self) _ (cell_start c.args.place.now.interface c.args.place.now.dispid)
    (key_digits c.args.place.now.key) (search rules) (search rules)

pub returns-clause-broken : goal.returns-clause-broken
returns-clause-broken g c = then_off c.put_key.result _ (g.W.Sink.out c.put.new.self) _ (cell_start c.args.place.now.interface c.args.place.now.dispid)
    (key_digits c.args.place.now.key) (search rules) (rw c.key.ensures.value at c.put_key.ensures.broken)
