use Rattle.std.proofs.Common.{take}
use Rattle.oa_history.specs.promise.FaultHistories.{Answered}
use Rattle.oa_history.proofs.failing.told_by.Given as goal

abbrev pub invariant-calls : goal.invariant-calls
invariant-calls l = Answered l.fn.server.engine.storage l.fn.server.engine.host (take l.call-index l.calls) l.told.items l.server.engine.storage
    l.server.engine.host
