-- GETIDS: the DISPIDs of names (IDispatch::GetIDsOfNames, MS-OAUT section 3.1.4.3).
use Rattle.std.specs.Prelude.{if◌then◌else◌, Result, Ok}
use Rattle.oa_model.specs.promise.Codes.{s_ok, disp_e_unknownname}
use Rattle.oa_record.specs.declared.request.GetIds.{GetIds}
use Rattle.oa_record.specs.promise.Replies.{ids_field}
use Rattle.oa_typelib.specs.promise.NamedValues.{DispIdsValue}
use Rattle.oa_typelib.specs.promise.Names.{names_told}
use Rattle.oa_decision.specs.declared.decision.Decision.{Decision}
use Rattle.oa_decision.specs.declared.decision.Decision.TheVariants.{Answer}
use Rattle.oa_decision.specs.declared.refusal.Refusal.{Refusal}
use Rattle.oa_decision.specs.promise.Interfaces.{interface_found}
use Rattle.oa_decision.specs.promise.Refusals.{◌>>=◌}
use Rattle.oa_decision.specs.promise.States.{State}

-- first the interface, then the DISPIDs of the names, and whether all are known
unfoldable pub ids_found : State → GetIds → Result DispIdsValue Refusal
ids_found state call = do
  interface ← interface_found state call.object call.interface call.riid
  Ok (names_told interface call.names)

-- the reply contains the DISPIDs even if not all names are known
abbrev pub ids_answer : DispIdsValue → Decision
ids_answer found = Answer (if found.all_known then s_ok else disp_e_unknownname) (ids_field found.ids)

abbrev pub look_up : State → GetIds → Result Decision Refusal
look_up state call = ids_found state call >>= λ found. Ok (ids_answer found)
