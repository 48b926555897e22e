use Rattle.oa_compat.proofs.Entered.{found_property, selected_entered}
use Rattle.oa_compat.proofs.laws.calls_reach_what_fits.Goals as goal

pub returns : goal.returns
returns c = record { interface = selected_entered; property = found_property }
