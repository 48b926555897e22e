use Rattle.std.proofs.Common.{take}
use Rattle.oa_disk.specs.promise.Memory.{memory_contents}
use Rattle.oa_decision.specs.promise.States.{State}
use Rattle.oa_history.specs.Kept.{IsRecoverable}
use Rattle.oa_history.specs.promise.CrashHistories.{IsFreshDisk, HistorySteps}
use Rattle.oa_history.proofs.history.run_history_on.Given as goal

abbrev pub invariant-steps : goal.invariant-steps
invariant-steps l = record {
  settled : IsFreshDisk l.disk;
  lives : (first : State) → IsRecoverable l.fn.disk first → (state : State)
      × HistorySteps (memory_contents l.fn.disk) first (take l.step-index l.steps) l.heard.items (memory_contents l.disk) state × IsRecoverable l.disk state;
}
