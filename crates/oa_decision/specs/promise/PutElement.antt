-- PUTELEM: an element of the array in a cell is set. (This project's choice.)
use Rattle.std.specs.Prelude.{ℤ, List, [], Result, Ok}
use Rattle.oa_variant.specs.declared.scalar.Scalar.{Scalar}
use Rattle.oa_variant.specs.declared.variant.Variant.{Variant}
use Rattle.oa_record.specs.declared.request.Call.{Call}
use Rattle.oa_table.specs.declared.event.Event.TheVariants as events
use Rattle.oa_typelib.specs.declared.access.Access.TheVariants.{Put}
use Rattle.oa_decision.specs.declared.decision.Decision.{Decision}
use Rattle.oa_decision.specs.declared.decision.Decision.TheVariants.{Change}
use Rattle.oa_decision.specs.declared.refusal.Refusal.{Refusal}
use Rattle.oa_decision.specs.declared.decider.cell.BoundCell.{BoundCell}
use Rattle.oa_decision.specs.promise.ArrayCells.{as_element, element_type_in}
use Rattle.oa_decision.specs.promise.Cells.{cell_called}
use Rattle.oa_decision.specs.promise.Refusals.{◌>>=◌}
use Rattle.oa_decision.specs.promise.States.{State}

-- a value coerced to the element of a cell
abbrev pub element_for : State → List ℤ → Variant → BoundCell → Result Scalar Refusal
element_for state index value cell = element_type_in state index cell >>= λ elem. as_element elem value

abbrev pub setting : State → List ℤ → Variant → BoundCell → Result Decision Refusal
setting state index value cell = do
  element ← element_for state index value cell
  Ok (Change (events.PutElement cell.name index element) [])

-- first the property's put form, with arguments as of a get, then the new element
abbrev pub element_put : State → Call → List ℤ → Variant → Result Decision Refusal
element_put state call index value = cell_called state call Put >>= setting state index value
