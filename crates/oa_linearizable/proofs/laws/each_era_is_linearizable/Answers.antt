use Rattle.oa_linearizable.proofs.Crashed.{each_era}
use Rattle.oa_linearizable.proofs.laws.each_era_is_linearizable.Goals as goal

pub returns : goal.returns
returns g c = each_era {g = g.D.Disk} (λ d f honest since. g.met.D.Disk.only_now d f honest since)
