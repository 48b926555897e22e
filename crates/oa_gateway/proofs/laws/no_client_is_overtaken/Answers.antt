use Rattle.oa_gateway.proofs.Placed.{nobody_waits}
use Rattle.oa_gateway.proofs.Queued.{gets_its_turn, kept_had_nothing, keeps_its_place, keeps_its_turn, still_behind, still_waits, waits_nearer}
use Rattle.oa_gateway.proofs.laws.no_client_is_overtaken.Goals as goal

pub returns : goal.returns
returns c = record {
  turns = gets_its_turn;
  batches = keeps_its_place;
  nothing = keeps_its_turn;
  stays = still_waits;
  kept = kept_had_nothing;
  joins = still_behind;
  leaves = waits_nearer;
  places = nobody_waits;
}
