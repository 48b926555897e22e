use Rattle.oa_turn.proofs.Fitting.{run_fit, turn_fit}
use Rattle.oa_turn.proofs.laws.fits_stays.Goals as goal

pub returns : goal.returns
returns c = record { turn = turn_fit c.changes_that_fit.ensures.event; run = run_fit c.changes_that_fit.ensures.event }
