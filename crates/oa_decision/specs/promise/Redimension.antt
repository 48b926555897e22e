-- REDIM: the array in a cell gets another first listed bound. (This project's choice.)
use Rattle.std.specs.Prelude.{◌≡◌, [], Option, Some, None, Result, Ok}
use Rattle.oa_model.specs.declared.bound.Bound.{Bound}
use Rattle.oa_model.specs.declared.var_type.ValueType.{ValueType}
use Rattle.oa_variant.specs.declared.variant.Variant.{Variant}
use Rattle.oa_variant.specs.promise.Variants.{zero_value}
use Rattle.oa_record.specs.declared.request.Call.{Call}
use Rattle.oa_table.specs.declared.event.Event.TheVariants as events
use Rattle.oa_table.specs.declared.name.CellName.{CellName}
use Rattle.oa_table.specs.promise.Elements.{redimensioned_value}
use Rattle.oa_typelib.specs.declared.access.Access.TheVariants.{Put}
use Rattle.oa_decision.specs.declared.decision.Decision.{Decision}
use Rattle.oa_decision.specs.declared.decision.Decision.TheVariants.{Change}
use Rattle.oa_decision.specs.declared.refusal.Refusal.{Refusal}
use Rattle.oa_decision.specs.declared.decider.cell.BoundCell.{BoundCell}
use Rattle.oa_decision.specs.promise.ArrayCells.{as_refused, put_in}
use Rattle.oa_decision.specs.promise.Cells.{cell_called}
use Rattle.oa_decision.specs.promise.Refusals.{◌>>=◌}
use Rattle.oa_decision.specs.promise.States.{State}

-- the call reaches a cell that was never put, whose zero takes memory to make
pub record IsOfNeverPut (state : State) (call : Call) : Type 0 where
  pub cell : BoundCell
  pub reached : cell_called state call Put ≡ Ok cell
  pub fresh : put_in state cell.name ≡ None

-- the zero of a declared type with another first bound
abbrev pub zero_with : Bound → ValueType → Result Variant Refusal
zero_with bound declared = as_refused (redimensioned_value bound (zero_value declared))

-- the array in a cell is changed; a cell that was never put is put, with its zero changed
abbrev pub resizing : CellName → ValueType → Bound → Option Variant → Result Decision Refusal
resizing name declared bound None = zero_with bound declared >>= λ value. Ok (Change (events.Put name value) [])
resizing name declared bound (Some value) = Ok (Change (events.Redim name bound) [])

-- first the property's put form, with arguments as of a get, then the array
abbrev pub redimension : State → Call → Bound → Result Decision Refusal
redimension state call bound =
    cell_called state call Put >>= λ cell. resizing cell.name cell.declared bound (put_in state cell.name)
