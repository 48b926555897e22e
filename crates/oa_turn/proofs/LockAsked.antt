-- Which lock a body asks to be changed.
use Rattle.std.proofs.Common.{◌≡◌, inr, ℕ, ◌<◌, ◌≤◌, nat_lt, Bool, true, false, List, length, Option, Some, None, Result, Ok, Err, refl, sym, ap, ◌∙◌, arith}
use Rattle.std.specs.Prelude.{if◌then◌else◌}
use Rattle.std.proofs.lemmas.Bool.{ltb-true}
use Rattle.oa_record.specs.promise.Asks.{Asks, request_opcode}
use Rattle.oa_record.specs.promise.Opcodes.{opcode_at, opcode_named, opcode_number}
use Rattle.oa_record.specs.Opcodes.{opcode_in}
use Rattle.oa_record.specs.declared.request.Request.{Request}
use Rattle.oa_record.proofs.OpcodeLaws.{named_back}
use Rattle.oa_decision.specs.promise.Decided.{decided}
use Rattle.oa_decision.specs.promise.States.{State}
use Rattle.oa_decision.specs.declared.decision.LockChange.{LockChange}
use Rattle.oa_turn.specs.promise.Locking.{AsksLock, changes_lock, lock_asked_by, lock_decided}
use Rattle.oa_turn.specs.Locking.{FindsLock, FindsLockBy, asks_lock, is_lock_in}

abbrev no_change : Option LockChange
no_change = None

none_is_some : (change : LockChange) → no_change ≡ Some change → ⊥
none_is_some change e = cc

-- ---- of a request
pub by_kind : (state : State) (request : Request) → changes_lock request ≡ false → no_change ≡ lock_asked_by state request
by_kind state request e = sym (ap (λ (b : Bool). if b then lock_decided (decided state request) else None) e)

-- ---- of a body
module _ (one_request : (body : List ℕ) (p q : Request) → Asks body p → Asks body q → p ≡ q) (state : State) (body : List ℕ) (request : Request)
    (asked : Asks body request) where
  pub finds : {E : Type 0} (result : Result (Option LockChange) E) → FindsLockBy state request result → FindsLock state body result
  finds (Ok None) is =
      λ change asks. none_is_some change (is ∙ ap (λ (r : Request). lock_asked_by state r) (one_request body request asks.request asked asks.asked) ∙ asks.is)
  finds (Ok (Some change)) is = record { request = request; asked = asked; is = sym is }
  finds (Err e) is = inr (record { request = request; asked = asked; takes = is })

-- no other opcode's body asks for one
named : (body : List ℕ) (request : Request) → (8 ≤ length body) × (opcode_at body ≡ opcode_number (request_opcode request))
    → opcode_in body ≡ opcode_named (opcode_number (request_opcode request))
named body request stands = by (nat_lt (length body) 8) refl
  where
    by : (b : Bool) → nat_lt (length body) 8 ≡ b → (if b then None else opcode_named (opcode_at body)) ≡ opcode_named (opcode_number (request_opcode request))
    by true short = let less : length body < 8 = ltb-true (length body) 8 short in absurd (omega (arith, less, stands.0))
    by false long = ap opcode_named stands.1

changes_by_opcode : (request : Request) → changes_lock request ≡ is_lock_in (opcode_named (opcode_number (request_opcode request)))
changes_by_opcode request = ap is_lock_in (sym (named_back (request_opcode request)))

pub asks_none : ((body : List ℕ) (q : Request) → Asks body q → (8 ≤ length body) × (opcode_at body ≡ opcode_number (request_opcode q)))
    → (state : State) (body : List ℕ) → asks_lock body ≡ false
    → (change : LockChange) → AsksLock state body change → ⊥
asks_none opcode_stands state body other change asks =
    let kind : changes_lock asks.request ≡ false = changes_by_opcode asks.request
    ∙ ap is_lock_in (sym (named body asks.request (opcode_stands body asks.request asks.asked))) ∙ other in
    none_is_some change (by_kind state asks.request kind ∙ asks.is)
