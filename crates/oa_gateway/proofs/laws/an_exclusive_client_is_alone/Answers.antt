use Rattle.oa_gateway.proofs.Begun.{all_its_own, begins_alone}
use Rattle.oa_gateway.proofs.laws.an_exclusive_client_is_alone.Goals as goal

pub returns : goal.returns
returns c = record { begins = begins_alone; alone = all_its_own }
