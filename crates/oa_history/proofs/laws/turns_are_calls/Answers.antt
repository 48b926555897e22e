use Rattle.oa_history.proofs.Turns.{calls_of_turns}
use Rattle.oa_history.proofs.laws.turns_are_calls.Goals as goal

pub returns : goal.returns
returns g c = calls_of_turns {g = g.D.Disk} (λ d f honest since. g.met.D.Disk.only_now d f honest since)
