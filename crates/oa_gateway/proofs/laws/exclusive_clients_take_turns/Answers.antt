use Rattle.std.proofs.Common.{refl}
use Rattle.oa_gateway.proofs.Begun.{has_next, others_stay_first, shared_go_first, they_wait}
use Rattle.oa_gateway.proofs.laws.exclusive_clients_take_turns.Goals as goal

pub returns : goal.returns
returns c = record {
  gone = λ e. (refl, refl);
  shared = shared_go_first;
  stays = others_stay_first;
  they_wait = they_wait;
  exclusive = has_next;
}
