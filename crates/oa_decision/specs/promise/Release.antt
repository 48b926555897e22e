-- RELEASE: an object is removed, unless one of its arrays is locked; the table refuses it then. (This project's
-- choice.)
use Rattle.std.specs.Prelude.{ℕ, [], Result, Ok}
use Rattle.oa_table.specs.declared.event.Event.TheVariants.{Release}
use Rattle.oa_decision.specs.declared.decision.Decision.{Decision}
use Rattle.oa_decision.specs.declared.decision.Decision.TheVariants.{Change}
use Rattle.oa_decision.specs.declared.refusal.Refusal.{Refusal}

abbrev pub ending : ℕ → Result Decision Refusal
ending number = Ok (Change (Release number) [])
