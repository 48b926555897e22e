-- The interface of an object that a call addresses, or the first refusal. The order of the refusals is this project's
-- choice.
use Rattle.std.specs.Prelude.{ℕ, not, List, Result, Ok}
use Rattle.uuid.specs.Parts.{is_nil_bytes}
use Rattle.oa_model.specs.promise.Codes.{disp_e_unknowninterface, e_nointerface, rpc_e_disconnected}
use Rattle.oa_idl.specs.promise.Values.{InterfaceValue}
use Rattle.oa_sema.specs.promise.Libraries.{selected_in}
use Rattle.oa_table.specs.promise.Tables.{class_in, object_at}
use Rattle.oa_decision.specs.declared.refusal.Refusal.{Refusal}
use Rattle.oa_decision.specs.promise.Refusals.{◌>>=◌, known, unless}
use Rattle.oa_decision.specs.promise.States.{State}

-- first the object, then its interface, then riid
unfoldable pub interface_found : State → ℕ → List ℕ → List ℕ → Result InterfaceValue Refusal
interface_found state object interface riid = do
  class ← known rpc_e_disconnected (class_in (object_at object state.table))
  found ← known e_nointerface (selected_in state.library class interface)
  zero ← unless disp_e_unknowninterface (not (is_nil_bytes riid))
  Ok found
