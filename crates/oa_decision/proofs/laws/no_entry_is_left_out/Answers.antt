use Rattle.oa_decision.proofs.Entries.{class_described, entries_there}
use Rattle.oa_decision.proofs.laws.no_entry_is_left_out.Goals as goal

pub returns : goal.returns
returns c = record { described = class_described; entries = entries_there }
