use Rattle.oa_turn.proofs.Beginning.{first_begins, turn_begins}
use Rattle.oa_server.proofs.Beginning.{groups_begin, opened_begins}
use Rattle.oa_server.proofs.laws.what_was_served_is_served_again.Goals as goal

pub returns : goal.returns
returns c = record {
  turn = turn_begins c.changes_that_fit.ensures.event;
  groups = groups_begin c.changes_that_fit.ensures.event;
  opened = opened_begins;
  first = first_begins;
}
