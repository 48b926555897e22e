-- Requests without fields are always answered with S_OK, and with fields that describe the server's state, which does
-- not change. (This project's choice.)
use Rattle.std.specs.Prelude.{ℕ, List, Result, Ok}
use Rattle.oa_model.specs.promise.Codes.{s_ok}
use Rattle.oa_record.specs.declared.opcode.Query.{Query}
use Rattle.oa_record.specs.declared.opcode.Query.TheVariants as queries
use Rattle.oa_decision.specs.declared.decision.Decision.{Decision}
use Rattle.oa_decision.specs.declared.decision.Decision.TheVariants.{Answer}
use Rattle.oa_decision.specs.declared.refusal.Refusal.{Refusal}
use Rattle.oa_decision.specs.promise.Listing.{objects_field}
use Rattle.oa_decision.specs.promise.States.{State}

-- the fields of the answer
abbrev pub query_fields : State → Query → List ℕ
query_fields state queries.Objects = objects_field state.table

abbrev pub answered : State → Query → Result Decision Refusal
answered state query = Ok (Answer s_ok (query_fields state query))
