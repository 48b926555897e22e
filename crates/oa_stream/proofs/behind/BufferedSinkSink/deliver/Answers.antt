use Rattle.oa_stream.proofs.KeptBack.{back_delivers}
use Rattle.oa_stream.proofs.behind.BufferedSinkSink.deliver.Goals as goal

pub returns : goal.returns
returns g c = back_delivers c.deliver.result _ _ _ _ _ c.in_ok-pass.ensures.empty c.in_ok-pass.ensures.puts c.deliver.ensures
