-- Where a change that was decided may want memory, its request may.
use Rattle.std.proofs.Common.{◌≡◌, List, ℕ, IsOk, Ok, inr, sym, subst, Result}
use Rattle.oa_record.specs.declared.request.Request.{Request}
use Rattle.oa_table.specs.declared.event.Event.{Event}
use Rattle.oa_decision.specs.declared.decision.Decision.{Decision}
use Rattle.oa_decision.specs.declared.decision.Decision.TheVariants.{Change}
use Rattle.oa_decision.specs.declared.refusal.Refusal.{Refusal}
use Rattle.oa_decision.specs.promise.Limits.{allowed}
use Rattle.oa_decision.specs.promise.States.{State}
use Rattle.oa_decision.specs.promise.Decided.{ChangingTakesMemory, RequestTakesMemory, decided}

pub wants : (state : State) (request : Request) (event : Event) (fields : List ℕ) → decided state request ≡ Ok (Change event fields)
    → IsOk (allowed state.bank event state.table)
    → RequestTakesMemory state request
wants state request event fields h ok = inr (subst (λ (d : Result Decision Refusal). ChangingTakesMemory state d) (sym h) ok)
