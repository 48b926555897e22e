-- CREATE: a new object of a coclass. (This project's choice.)
use Rattle.std.specs.Prelude.{◌+◌, ℕ, ◌||◌, ◌==◌, nat_lt, not, Bool, List, length, Result, Ok, Err}
use Rattle.oa_model.specs.promise.Limits.{greatest_object_number, max_live_objects}
use Rattle.oa_model.specs.declared.hresult.HResult.{HResult}
use Rattle.oa_model.specs.promise.Codes.{e_unexpected, regdb_e_classnotreg}
use Rattle.oa_record.specs.promise.Replies.{number_field}
use Rattle.oa_sema.specs.promise.Libraries.{class_of}
use Rattle.oa_table.specs.declared.event.Event.TheVariants.{Create}
use Rattle.oa_table.specs.promise.Tables.{TableValue}
use Rattle.oa_decision.specs.declared.decision.Decision.{Decision}
use Rattle.oa_decision.specs.declared.decision.Decision.TheVariants.{Change}
use Rattle.oa_decision.specs.declared.refusal.Refusal.{Refusal}
use Rattle.oa_decision.specs.promise.Limits.{allowed}
use Rattle.oa_decision.specs.promise.Refusals.{◌>>=◌, known, refused, unless}
use Rattle.oa_decision.specs.promise.States.{State}

-- whether no further object can be made: 65,536 are live, or the numbers are used up
abbrev pub is_used_up : TableValue → Bool
is_used_up table = not (nat_lt (length table.objects) max_live_objects) || (table.next == greatest_object_number + 1)

-- whether an object of the coclass can be made
abbrev pub class_found : State → List ℕ → Result (Unit {0}) Refusal
class_found state class =
    known regdb_e_classnotreg (class_of state.library class) >>= λ _. unless e_unexpected (is_used_up state.table)

-- whether an event is allowed
abbrev pub fitting : Result TableValue HResult → Result (Unit {0}) Refusal
fitting (Ok table) = Ok tt
fitting (Err code) = refused code

-- it gets the next number, which the reply contains
abbrev pub creation : State → List ℕ → Result Decision Refusal
creation state class =
    class_found state class >>= λ _. fitting (allowed state.bank (Create state.table.next class) state.table)
    >>= λ _. Ok (Change (Create state.table.next class) (number_field state.table.next))
