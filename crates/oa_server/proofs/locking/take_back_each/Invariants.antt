use Rattle.std.proofs.Common.{◌≡◌, map}
use Rattle.oa_turn.specs.Counts.{locked_name}
use Rattle.oa_server.proofs.LocksBack.{taken_clients}
use Rattle.oa_server.specs.promise.SharedMachine.{taken_back}
use Rattle.oa_server.proofs.locking.take_back_each.Given as goal

abbrev pub invariant-clients : goal.invariant-clients
invariant-clients l = taken_clients l._client-iterator l.host ≡ taken_back (map locked_name l.fn.owners) l.fn.host
