-- A call of an object that is not there.
use Rattle.std.proofs.Common.{◌≡◌, None, Err, refl}
use Rattle.oa_model.specs.promise.Codes.{rpc_e_disconnected}
use Rattle.oa_record.specs.declared.request.Call.{Call}
use Rattle.oa_table.specs.promise.Tables.{object_at}
use Rattle.oa_typelib.specs.declared.access.Access.{Access}
use Rattle.oa_typelib.specs.declared.access.Access.TheVariants.{Flags}
use Rattle.oa_decision.specs.declared.refusal.Refusal.{Refusal}
use Rattle.oa_decision.specs.promise.Cells.{cell_called}
use Rattle.oa_decision.specs.promise.Interfaces.{interface_found}
use Rattle.oa_decision.specs.promise.Invoke.{invocation}
use Rattle.oa_decision.specs.promise.States.{State}

module _ (state : State) (call : Call) (refusal : Refusal) (none : object_at call.head.object state.table ≡ None)
    (is : refusal ≡ record { code = rpc_e_disconnected; index = None }) where
  pub no_cell : (access : Access) → cell_called state call access ≡ Err refusal
  unfolding cell_called interface_found
  no_cell access = rw (none, is) refl

  pub no_invocation : invocation state call ≡ Err refusal
  no_invocation = rw (no_cell (Flags call.head.flags)) refl
