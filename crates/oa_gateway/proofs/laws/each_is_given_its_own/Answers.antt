use Rattle.oa_gateway.proofs.Given.{is_given}
use Rattle.oa_gateway.proofs.laws.each_is_given_its_own.Goals as goal

pub returns : goal.returns
returns c = is_given
