-- Turns that make no event. A body that asks nothing is refused, or memory was wanted to read it: a turn that changes nothing.
use Rattle.std.proofs.Common.{◌≡◌, ℕ, List, None, Ok, Err, inl, inr, refl, ◌∙◌}
use Rattle.oa_model.specs.promise.Codes.{e_outofmemory}
use Rattle.oa_model.specs.declared.hresult.HResult.{HResult}
use Rattle.oa_record.specs.promise.Asks.{Asks, tag_at}
use Rattle.oa_record.specs.Asks.{IsRequest}
use Rattle.oa_record.specs.Faults.{record_code, index_told}
use Rattle.oa_record.specs.promise.Replies.{ReplyValue}
use Rattle.oa_record.specs.declared.fault.RecordFault.{RecordFault}
use Rattle.oa_record.specs.declared.fault.RecordFault.TheVariants.{Stub, BadVarType, Memory}
use Rattle.oa_record.specs.declared.request.Request.{Request}
use Rattle.oa_decision.specs.declared.decision.Decision.TheVariants.{Answer, Relock}
use Rattle.oa_decision.specs.declared.decision.LockChange.{LockChange}
use Rattle.oa_decision.specs.declared.refusal.Refusal.{Refusal}
use Rattle.oa_turn.specs.promise.Steps.{after_outcome, relocked, relocking, reply_with}
use Rattle.oa_decision.specs.promise.States.{State}
use Rattle.oa_decision.specs.promise.Decided.{RequestTakesMemory, decided, refusal}
use Rattle.oa_turn.specs.promise.Turns.{Ordinary}

pub refused_turn : (old new : State) (body : List ℕ) (reply : ReplyValue) (fault : RecordFault) → IsRequest body (Err fault)
    → reply ≡ refusal (tag_at body) (record_code fault) (index_told fault) → new ≡ old → Ordinary old body reply new
refused_turn old new body reply Stub why is same = inr (inl (record { why = why; answers = is; leaves = same }))
refused_turn old new body reply (BadVarType i) why is same = inr (inr (inl (record { index = i; why = why; answers = is; leaves = same })))
refused_turn old new body reply Memory why is same = inr (inr (inr (record { may = inl why; answers = is; leaves = same })))

-- A request that makes no event is answered, or memory was wanted: a turn, too.
module _ (old : State) (body : List ℕ) (request : Request) (asked : Asks body request) (reply : ReplyValue) where
  pub told : (code : HResult) (fields : List ℕ) → decided old request ≡ Ok (Answer code fields)
      → reply ≡ record { tag = tag_at body; code = code; index = None; body = fields } → Ordinary old body reply old
  told code fields is says = inl (record { request = request; asked = asked; answers = says ∙ rw is refl; leaves = rw is refl })

  pub told_why : (why : Refusal) → decided old request ≡ Err why → reply ≡ refusal (tag_at body) why.code why.index → Ordinary old body reply old
  told_why why is says = inl (record { request = request; asked = asked; answers = says ∙ rw is refl; leaves = rw is refl })

  pub relocks : (new : State) (change : LockChange) (fields : List ℕ) → decided old request ≡ Ok (Relock change fields)
      → reply ≡ reply_with (tag_at body) (relocking change fields (relocked change old.table))
      → new ≡ after_outcome old (relocking change fields (relocked change old.table)) → Ordinary old body reply new
  relocks new change fields is says leaves = inl (record { request = request; asked = asked; answers = says ∙ rw is refl; leaves = leaves ∙ rw is refl })

  pub lacks : RequestTakesMemory old request → reply ≡ refusal (tag_at body) e_outofmemory None → Ordinary old body reply old
  lacks takes says = inr (inr (inr (record { may = inr (record { request = request; asked = asked; takes = takes }); answers = says; leaves = refl })))
