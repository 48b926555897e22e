use Rattle.oa_turn.proofs.NoTrace.{quiet_choice, quiet_run, quiet_step, quiet_turn}
use Rattle.oa_turn.proofs.laws.no_trace.Goals as goal

pub returns : goal.returns
returns c = record { outcome = quiet_step; turn = quiet_turn; others = quiet_run; some = quiet_choice }
