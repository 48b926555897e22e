use Rattle.oa_gateway.proofs.Ends.{all_counted}
use Rattle.oa_gateway.proofs.laws.ends_are_counted.Goals as goal

pub returns : goal.returns
returns c = all_counted
