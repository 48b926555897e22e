use Rattle.std.proofs.Common.{◌≡◌, ◌-◌, []}
use Rattle.oa_turn.specs.Kept.{copies}
use Rattle.oa_server.specs.promise.SharedMachine.{taken_back}
use Rattle.oa_server.proofs.locking.take_back_times.Given as goal

abbrev pub invariant-times : goal.invariant-times
invariant-times l = taken_back (copies (l.count - l.counter) l.name []) l.host ≡ taken_back (copies l.count l.name []) l.fn.host
