-- UNLOCK: the array in a cell gets one lock fewer, for the session. (This project's choice.)
use Rattle.std.specs.Prelude.{◌-◌, Result, Ok}
use Rattle.oa_record.specs.declared.request.Call.{Call}
use Rattle.oa_record.specs.promise.Replies.{number_field}
use Rattle.oa_typelib.specs.declared.access.Access.TheVariants.{Get}
use Rattle.oa_decision.specs.declared.decision.Decision.{Decision}
use Rattle.oa_decision.specs.declared.decision.Decision.TheVariants.{Relock}
use Rattle.oa_decision.specs.declared.decision.LockChange.TheVariants.{Unlock}
use Rattle.oa_decision.specs.declared.refusal.Refusal.{Refusal}
use Rattle.oa_decision.specs.declared.decider.cell.BoundCell.{BoundCell}
use Rattle.oa_decision.specs.promise.ArrayCells.{locks_found}
use Rattle.oa_decision.specs.promise.Cells.{cell_called}
use Rattle.oa_decision.specs.promise.Refusals.{◌>>=◌}
use Rattle.oa_decision.specs.promise.States.{State}

-- the reply contains the new count
abbrev pub unlock_decision : State → BoundCell → Result Decision Refusal
unlock_decision state cell = locks_found state cell >>= λ locks. Ok
    (Relock (Unlock cell.name) (number_field (locks - 1)))

-- first the property's get form, then the array
abbrev pub unlocking : State → Call → Result Decision Refusal
unlocking state call = cell_called state call Get >>= unlock_decision state
