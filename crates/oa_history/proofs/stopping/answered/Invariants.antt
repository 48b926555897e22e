use Rattle.std.proofs.Common.{◌≡◌, length, take}
use Rattle.oa_history.specs.promise.CrashHistories.{made_calls}
use Rattle.oa_server.specs.promise.Storages.{Serves}
use Rattle.oa_history.specs.promise.DurablePrefixes.{CallSequence}
use Rattle.oa_history.proofs.stopping.answered.Given as goal

abbrev pub invariant-calls : goal.invariant-calls
invariant-calls l = record {
  all : length l.answers.items ≡ length (take l.call-index l.calls);
  made : CallSequence Serves l.fn.server.engine.storage l.fn.server.engine.host (made_calls (take l.call-index l.calls) l.answers.items) l.server.engine.storage
      l.server.engine.host;
}
