use Rattle.oa_linearizable.proofs.InMemory.{in_memory}
use Rattle.oa_linearizable.proofs.laws.linearizable_in_memory.Goals as goal

pub returns : goal.returns
returns g c = in_memory {g = g.D.Disk}
