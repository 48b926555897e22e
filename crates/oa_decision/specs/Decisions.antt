-- Decisions about requests, which only read. (This project's choice.)
use Rattle.std.specs.Prelude.{◌≡◌, Result, Ok, Err}
use Rattle.oa_table.specs.Events.{BringsNoLocks}
use Rattle.oa_decision.specs.declared.decision.Decision.{Decision}
use Rattle.oa_decision.specs.declared.decision.Decision.TheVariants.{Answer, Change, Relock}
use Rattle.oa_decision.specs.declared.decision.DecideError.{DecideError}
use Rattle.oa_decision.specs.declared.decision.DecideError.TheVariants.{Refused, OutOfMemory}
use Rattle.oa_decision.specs.declared.refusal.Refusal.{Refusal}

-- A request is decided as defined, or out of memory is returned if an allocation may be needed.
abbrev pub Decides : Result Decision Refusal → Type 0 → Result Decision DecideError → Type 0
Decides due takes (Ok decision) = due ≡ Ok decision
Decides due takes (Err (Refused r)) = due ≡ Err r
Decides due takes (Err OutOfMemory) = takes

-- no event contains locks: they belong to a session
abbrev pub ChangesNoLocks : Decision → Type 0
ChangesNoLocks (Answer code fields) = Unit {0}
ChangesNoLocks (Change event fields) = BringsNoLocks event
ChangesNoLocks (Relock change fields) = Unit {0}
