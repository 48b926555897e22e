use Rattle.oa_mux.proofs.Framed.{cuts}
use Rattle.oa_mux.proofs.laws.cuts_do_not_matter.Goals as goal

pub returns : goal.returns
returns c = cuts
