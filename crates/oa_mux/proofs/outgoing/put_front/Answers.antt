use Rattle.std.proofs.Common.{subst}
use Rattle.oa_stream.specs.Sink.{Puts}
use Rattle.oa_mux.proofs.outgoing.put_front.Goals as goal

pub returns : goal.returns
returns g c = subst (Puts c.put.result _ _) c.lay_out.ensures c.put.ensures
