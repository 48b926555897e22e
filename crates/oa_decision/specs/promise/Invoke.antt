-- INVOKE: a property is read or put (MS-OAUT section 3.1.4.4).
use Rattle.std.specs.Prelude.{ℕ, List, [], Option, Some, None, Result, Ok}
use Rattle.oa_model.specs.declared.var_type.ValueType.{ValueType}
use Rattle.oa_model.specs.promise.Codes.{s_ok}
use Rattle.oa_variant.specs.declared.variant.Variant.{Variant}
use Rattle.oa_variant.specs.promise.Variants.{unlocked, zero_value}
use Rattle.oa_record.specs.declared.request.Call.{Call}
use Rattle.oa_record.specs.promise.Replies.{variant_field}
use Rattle.oa_typelib.specs.declared.access.Access.TheVariants.{Flags}
use Rattle.oa_table.specs.declared.event.Event.TheVariants.{Put}
use Rattle.oa_table.specs.declared.name.CellName.{CellName}
use Rattle.oa_table.specs.promise.Tables.{cell_in, object_at}
use Rattle.oa_decision.specs.declared.decision.Decision.{Decision}
use Rattle.oa_decision.specs.declared.decision.Decision.TheVariants.{Answer, Change}
use Rattle.oa_decision.specs.declared.refusal.Refusal.{Refusal}
use Rattle.oa_decision.specs.declared.decider.cell.BoundCell.{BoundCell}
use Rattle.oa_decision.specs.promise.Cells.{cell_called}
use Rattle.oa_decision.specs.promise.Refusals.{◌>>=◌}
use Rattle.oa_decision.specs.promise.States.{State}

-- a cell that was never put reads as the zero of its declared type
abbrev pub or_zero : ValueType → Option Variant → Variant
or_zero declared None = zero_value declared
or_zero declared (Some value) = value

-- the fields of a get's reply
abbrev pub reply_value : State → CellName → ValueType → List ℕ
reply_value state name declared =
    variant_field (or_zero declared (cell_in name.place (object_at name.object state.table)))

-- a get, which has no new value, replies with the value of its cell; a put sets it, without locks, which are not part
-- of a value
abbrev pub acting : State → CellName → ValueType → Option Variant → Decision
acting state name declared None = Answer s_ok (reply_value state name declared)
acting state name declared (Some value) = Change (Put name (unlocked value)) []

abbrev pub cell_decided : State → BoundCell → Decision
cell_decided state cell = acting state cell.name cell.declared cell.value

abbrev pub invocation : State → Call → Result Decision Refusal
invocation state call = cell_called state call (Flags call.head.flags) >>= λ cell. Ok (cell_decided state cell)
