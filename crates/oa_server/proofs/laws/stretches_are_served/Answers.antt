use Rattle.oa_server.proofs.AnsweredStretches.{stretches_served}
use Rattle.oa_server.proofs.laws.stretches_are_served.Goals as goal

pub returns : goal.returns
returns g c = stretches_served {g = g.D.Disk} (λ d f honest since. g.met.D.Disk.only_now d f honest since)
