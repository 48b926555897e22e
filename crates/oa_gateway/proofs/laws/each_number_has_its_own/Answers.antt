use Rattle.oa_gateway.proofs.Own.{each_number}
use Rattle.oa_gateway.proofs.laws.each_number_has_its_own.Goals as goal

pub returns : goal.returns
returns c = each_number
