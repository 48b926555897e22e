use Rattle.oa_table.proofs.Unlocked.{event_follows}
use Rattle.oa_table.proofs.laws.locks_change_no_event.Goals as goal

pub returns : goal.returns
returns c = event_follows
