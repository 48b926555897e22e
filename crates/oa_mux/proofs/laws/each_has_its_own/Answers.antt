use Rattle.oa_mux.proofs.Owners.{each}
use Rattle.oa_mux.proofs.laws.each_has_its_own.Goals as goal

pub returns : goal.returns
returns c = each
