use Rattle.oa_linearizable.proofs.Seen.{all_seen}
use Rattle.oa_linearizable.proofs.laws.seen_histories_are_linearizable.Goals as goal

pub returns : goal.returns
returns c = all_seen
