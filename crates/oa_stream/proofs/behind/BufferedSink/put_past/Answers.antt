use Rattle.std.proofs.lemmas.Result.{err_from_is_err_and}
use Rattle.oa_stream.specs.BufferedSink.{kept_back}
use Rattle.oa_stream.proofs.Stretches.{breaks_before}
use Rattle.oa_stream.proofs.KeptBack.{back_puts, back_breaks}
use Rattle.oa_stream.proofs.behind.BufferedSink.put_past.Goals as goal

pub returns-in_err-pass : goal.returns-in_err-pass
returns-in_err-pass g c =
    let p = err_from_is_err_and c.from_residual.result c.from_residual.ensures.1 in
    rw p.1 (back_breaks _ _ (kept_back c.args.self.now) (kept_back c.pass.new.self) c.args.bytes.now
    (breaks_before _ _ (kept_back c.args.self.now) c.args.bytes.now c.in_err-pass.ensures.puts))

pub returns : goal.returns
returns g c = back_puts c.put.result _ _ _ _ _ c.args.bytes.now c.in_ok-pass.ensures.empty c.in_ok-pass.ensures.puts c.put.ensures
