-- GETELEM: an element of the array in a cell is read. (This project's choice.)
use Rattle.std.specs.Prelude.{ℤ, List, Result, Ok}
use Rattle.oa_model.specs.promise.Codes.{s_ok}
use Rattle.oa_variant.specs.declared.variant.Variant.TheVariants.{One}
use Rattle.oa_record.specs.declared.request.Call.{Call}
use Rattle.oa_record.specs.promise.Replies.{variant_field}
use Rattle.oa_typelib.specs.declared.access.Access.TheVariants.{Get}
use Rattle.oa_decision.specs.declared.decision.Decision.{Decision}
use Rattle.oa_decision.specs.declared.decision.Decision.TheVariants.{Answer}
use Rattle.oa_decision.specs.declared.refusal.Refusal.{Refusal}
use Rattle.oa_decision.specs.declared.decider.cell.BoundCell.{BoundCell}
use Rattle.oa_decision.specs.promise.ArrayCells.{element_in}
use Rattle.oa_decision.specs.promise.Cells.{cell_called}
use Rattle.oa_decision.specs.promise.Refusals.{◌>>=◌}
use Rattle.oa_decision.specs.promise.States.{State}

abbrev pub reading : State → List ℤ → BoundCell → Result Decision Refusal
reading state index cell = element_in state index cell >>= λ element. Ok (Answer s_ok (variant_field (One element)))

-- first the property's get form, then the element
abbrev pub element_got : State → Call → List ℤ → Result Decision Refusal
element_got state call index = cell_called state call Get >>= reading state index
