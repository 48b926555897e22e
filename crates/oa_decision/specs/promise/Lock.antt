-- LOCK: the array in a cell gets one more lock, for the session. (This project's choice.)
use Rattle.std.specs.Prelude.{◌+◌, Result, Ok}
use Rattle.oa_record.specs.declared.request.Call.{Call}
use Rattle.oa_record.specs.promise.Replies.{number_field}
use Rattle.oa_typelib.specs.declared.access.Access.TheVariants.{Get}
use Rattle.oa_decision.specs.declared.decision.Decision.{Decision}
use Rattle.oa_decision.specs.declared.decision.Decision.TheVariants.{Relock}
use Rattle.oa_decision.specs.declared.decision.LockChange.TheVariants.{Lock}
use Rattle.oa_decision.specs.declared.refusal.Refusal.{Refusal}
use Rattle.oa_decision.specs.declared.decider.cell.BoundCell.{BoundCell}
use Rattle.oa_decision.specs.promise.ArrayCells.{locks_found}
use Rattle.oa_decision.specs.promise.Cells.{cell_called}
use Rattle.oa_decision.specs.promise.Refusals.{◌>>=◌}
use Rattle.oa_decision.specs.promise.States.{State}

-- the reply contains the new count
abbrev pub adding : State → BoundCell → Result Decision Refusal
adding state cell = locks_found state cell >>= λ locks. Ok (Relock (Lock cell.name) (number_field (locks + 1)))

-- first the property's get form, then the array
abbrev pub locking : State → Call → Result Decision Refusal
locking state call = cell_called state call Get >>= adding state
