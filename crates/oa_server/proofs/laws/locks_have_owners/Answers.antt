use Rattle.oa_server.proofs.Ledgered.{clients_keep, end_unlocks, opening_has, run_of_one, runs_keep, turn_of_one, turns_keep}
use Rattle.oa_server.proofs.laws.locks_have_owners.Goals as goal

pub returns-clause-opened : goal.returns-clause-opened
returns-clause-opened c = opening_has

pub returns-clause-client : goal.returns-clause-client
returns-clause-client c = clients_keep c.one_request.ensures c.a_replacement_is_no_request.ensures c.refused_asks_nothing.ensures.stub

pub returns-clause-turn : goal.returns-clause-turn
returns-clause-turn c = turns_keep c.one_request.ensures c.a_replacement_is_no_request.ensures c.refused_asks_nothing.ensures.stub

pub returns-clause-run : goal.returns-clause-run
returns-clause-run c = runs_keep c.one_request.ensures c.a_replacement_is_no_request.ensures c.refused_asks_nothing.ensures.stub

pub returns-clause-ended : goal.returns-clause-ended
returns-clause-ended c = end_unlocks c.one_request.ensures c.a_replacement_is_no_request.ensures c.refused_asks_nothing.ensures.stub

pub returns-clause-one_turn : goal.returns-clause-one_turn
returns-clause-one_turn c = turn_of_one c.one_request.ensures c.a_replacement_is_no_request.ensures c.refused_asks_nothing.ensures.stub

pub returns-clause-one_run : goal.returns-clause-one_run
returns-clause-one_run c = run_of_one c.one_request.ensures c.a_replacement_is_no_request.ensures c.refused_asks_nothing.ensures.stub
