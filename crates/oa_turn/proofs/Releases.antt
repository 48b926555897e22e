-- A RELEASE takes no memory, so it is not answered with want of it.
use Rattle.std.proofs.Common.{◌≡◌, ℕ, ◌-◌, ◌≤◌, Bool, true, false, true≢false, if◌then◌else◌, List, length, Option, Some, None, Result, Ok, Err}
use Rattle.std.proofs.Common.{IfErr, OnErr, refl, sym, ap, subst, ◌∙◌, arith}
use Rattle.std.specs.Prelude.{nat_lt}
use Rattle.std.specs.Result.{IsErrAnd, MatchResult}
use Rattle.std.proofs.lemmas.Bool.{le-ltb}
use Rattle.oa_array.specs.declared.fault.ArrayFault.TheVariants as arrays
use Rattle.oa_image.specs.promise.Sizes.{event_size}
use Rattle.oa_image.specs.promise.Tables.{reserved_bytes}
use Rattle.oa_table.specs.promise.Sizes.{table_size}
use Rattle.oa_model.specs.promise.Codes.{e_invalidarg, e_outofmemory, stg_e_mediumfull}
use Rattle.oa_model.specs.promise.Limits.{max_event_bytes}
use Rattle.oa_model.specs.declared.hresult.HResult.{HResult}
use Rattle.oa_record.specs.promise.Asks.{Asks, request_opcode}
use Rattle.oa_record.specs.Asks.{IsRequest}
use Rattle.oa_record.specs.Faults.{record_code}
use Rattle.oa_record.specs.promise.Opcodes.{opcode_at, opcode_before_memory, opcode_number}
use Rattle.oa_record.specs.promise.Replacement.{is_replacement}
use Rattle.oa_record.specs.promise.Replies.{ReplyValue}
use Rattle.oa_record.specs.declared.fault.RecordFault.{RecordFault}
use Rattle.oa_record.specs.declared.fault.RecordFault.TheVariants as records
use Rattle.oa_record.specs.declared.request.Request.{Request}
use Rattle.oa_record.specs.declared.opcode.ByNumber.TheVariants.{Release}
use Rattle.oa_record.specs.declared.request.Request.TheVariants.{ByNumber}
use Rattle.oa_table.specs.promise.Events.{applied, released_if_live}
use Rattle.oa_table.specs.promise.Faults.{table_code}
use Rattle.oa_table.specs.Memory.{MayWantMemory}
use Rattle.oa_table.specs.promise.Objects.{any_locked}
use Rattle.oa_table.specs.Outcomes.{Because}
use Rattle.oa_table.specs.promise.Tables.{ObjectValue, TableValue, object_at}
use Rattle.oa_table.specs.declared.event.Event.{Event}
use Rattle.oa_table.specs.declared.event.Event.TheVariants.{Release as ARelease}
use Rattle.oa_table.specs.declared.fault.TableFault.{TableFault}
use Rattle.oa_table.specs.declared.fault.TableFault.TheVariants.{NoObject, WrongNumber, NotArray, Array, Memory}
use Rattle.oa_decision.specs.promise.Decided.{DecidingTakesMemory, decided}
use Rattle.oa_decision.specs.promise.Limits.{allowed, limited}
use Rattle.oa_decision.specs.promise.States.{State}
use Rattle.oa_decision.specs.declared.decision.Decision.{Decision}
use Rattle.oa_decision.specs.declared.decision.Decision.TheVariants.{Answer, Change, Relock}
use Rattle.oa_decision.specs.declared.plan.Plan.{Plan}
use Rattle.oa_decision.specs.declared.plan.Plan.TheVariants.{Answered, Change as AChange}
use Rattle.oa_decision.specs.declared.refusal.Refusal.{Refusal}
use Rattle.oa_turn.specs.Plans.{PlansChange, PlansWithoutMemory}

abbrev number_of : HResult → ℕ
number_of code = code.0

abbrev refused_by : TableFault → Result TableValue TableFault
refused_by fault = Err fault

abbrev refused_with : HResult → Result TableValue HResult
refused_with code = Err code

same_fault : (f g : TableFault) → refused_by f ≡ refused_by g → f ≡ g
same_fault f g e = cc

same_code : (f g : HResult) → refused_with f ≡ refused_with g → f ≡ g
same_code f g e = cc

-- what a table refuses it for
refused : (number : ℕ) (table : TableValue) (fault : TableFault) → applied (ARelease number) table ≡ Err fault → table_code fault ≡ e_outofmemory → ⊥
refused number table fault is code = by (object_at number table) is
  where
    by_lock : (table' : TableValue) (b : Bool) → (if b then Err (Array arrays.IsLocked) else Ok table') ≡ refused_by fault → ⊥
    by_lock table' true is = omega (arith, ap number_of (ap table_code (same_fault (Array arrays.IsLocked) fault is) ∙ code))
    by_lock table' false is = absurd cc

    by : (o : Option ObjectValue) → released_if_live number table o ≡ refused_by fault → ⊥
    by None is = omega (arith, ap number_of (ap table_code (same_fault NoObject fault is) ∙ code))
    by (Some object) is = by_lock _ (any_locked object.cells) is

pub not_starved : (number : ℕ) (table : TableValue) (fault : TableFault) → (fault ≡ Memory → MayWantMemory (ARelease number) table)
    → Because (applied (ARelease number) table) fault
    → table_code fault ≡ e_outofmemory → ⊥
not_starved number table Memory starved why code = starved refl
not_starved number table NoObject starved why code = refused number table NoObject why code
not_starved number table WrongNumber starved why code = refused number table WrongNumber why code
not_starved number table NotArray starved why code = refused number table NotArray why code
not_starved number table (Array fault) starved why code = refused number table (Array fault) why code

pub not_allowed : (bank number : ℕ) (table : TableValue) (code : HResult) → allowed bank (ARelease number) table ≡ Err code → code ≡ e_outofmemory → ⊥
not_allowed bank number table code is memory = by (applied (ARelease number) table) refl is
  where
    by_limits : (new : TableValue) (long full : Bool) → (if long then Err e_invalidarg else if full then Err stg_e_mediumfull else Ok new) ≡ refused_with code
        → ⊥
    by_limits new true full is = omega (arith, ap number_of (same_code e_invalidarg code is ∙ memory))
    by_limits new false true is = omega (arith, ap number_of (same_code stg_e_mediumfull code is ∙ memory))
    by_limits new false false is = absurd cc

    by : (due : Result TableValue TableFault) → applied (ARelease number) table ≡ due → limited bank (ARelease number) due ≡ refused_with code → ⊥
    by (Ok new) at is = by_limits new (nat_lt max_event_bytes (event_size (ARelease number))) (nat_lt (bank - reserved_bytes) (table_size new)) is
    by (Err fault) at is = refused number table fault at (same_code (table_code fault) code is ∙ memory)

pub is_made : {E : Type 0} (P : E → HResult → Type 0) (from : Result (Unit {0}) E) (to : Result (Unit {0}) HResult) → OnErr from ⊥
    → MatchResult from (λ u. to ≡ Ok u) (λ e. IsErrAnd to (P e)) → IfErr to (λ code. code ≡ e_outofmemory → ⊥)
is_made P (Ok u) to none is = rw is tt
is_made P (Err e) to none is = absurd none

-- what a body is that asks one
module _ (body : List ℕ) (number : ℕ) (of : Asks body (ByNumber Release number)) where
  module _ (stands : (body : List ℕ) (q : Request) → Asks body q → (8 ≤ length body) × (opcode_at body ≡ opcode_number (request_opcode q))) where
    pub no_replacement : is_replacement body ≡ true → ⊥
    no_replacement is =
        let s = stands body (ByNumber Release number) of in
        let long = le-ltb (length body) 8 s.0 in
        true≢false (sym (rw (long, s.1) at is))

    pub is_read : (fault : RecordFault) → IsRequest body (Err fault) → record_code fault ≡ e_outofmemory → ⊥
    is_read records.Stub why code = omega (arith, ap number_of code)
    is_read (records.BadVarType i) why code = omega (arith, ap number_of code)
    is_read records.Memory why code =
        let s = stands body (ByNumber Release number) of in
        let none : opcode_before_memory (opcode_at body) ≡ 0 = ap opcode_before_memory s.1 in
        omega (arith, none, why.opcode)

  abbrev is_change : Result Decision Refusal → Bool
  is_change (Ok (Change event fields)) = true
  is_change (Ok (Answer code fields)) = false
  is_change (Ok (Relock change fields)) = false
  is_change (Err r) = false

  module _ (one : (body : List ℕ) (p q : Request) → Asks body p → Asks body q → p ≡ q) (state : State) (request : Request) (asked : Asks body request) where
    same : request ≡ ByNumber Release number
    same = one body request (ByNumber Release number) asked of

    pub changes : (due : Result Decision Refusal) → decided state request ≡ due → is_change due ≡ true
    changes due is = ap is_change (sym is) ∙ ap (λ (q : Request). is_change (decided state q)) same

    pub takes_none : DecidingTakesMemory state request → ⊥
    takes_none takes = subst (λ (q : Request). DecidingTakesMemory state q) same takes

    pub releases : (event : Event) (fields : List ℕ) → decided state request ≡ Ok (Change event fields) → event ≡ ARelease number
    releases event fields is = let change = sym is ∙ ap (decided state) same in cc

-- where its change was decided, it is planned or refused
pub is_planned : (body : List ℕ) → ((body : List ℕ) (p q : Request) → Asks body p → Asks body q → p ≡ q) → (state : State) (request : Request)
    → Asks body request
    → (tag : ℕ) (event : Event) (fields : List ℕ) (plan : Plan) → decided state request ≡ Ok (Change event fields) → PlansChange state tag event fields plan
    → PlansWithoutMemory body plan
is_planned body one state request asked tag event fields (Answered reply) is told = λ number of code.
    let release = releases body number of one state request asked event fields is in
    not_allowed state.bank number state.table told.0 (rw release at told.1) (sym (ap (λ (r : ReplyValue). r.code) told.2) ∙ code)
is_planned body one state request asked tag event fields (AChange planned) is told = tt
