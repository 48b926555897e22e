-- Bodies that ask for a lock to be changed.
use Rattle.std.proofs.Common.{◌≡◌, ◌⊎◌, if◌then◌else◌, inl, inr, ℕ, Bool, true, false, true≢false, List, [], Option, Some, None, Result, Ok, Err, IsOk, refl}
use Rattle.std.proofs.Common.{sym, ap, ◌∙◌, subst}
use Rattle.oa_model.specs.promise.Codes.{e_outofmemory}
use Rattle.oa_turn.specs.promise.ClientLocks.{ClientLock, owns, with_one, without_one}
use Rattle.oa_record.specs.promise.Asks.{Asks, IsStub, MayStarve, tag_at}
use Rattle.oa_record.specs.promise.Replacement.{is_replacement}
use Rattle.oa_record.specs.promise.Replies.{ReplyValue}
use Rattle.oa_record.specs.declared.request.Request.{Request}
use Rattle.oa_record.specs.declared.request.Request.TheVariants as requests
use Rattle.oa_record.specs.declared.opcode.ByCall.TheVariants as by_call
use Rattle.oa_server.specs.promise.SharedMachine.{HasOwners, MayChange, TurnsFor, relocked_by, shared}
use Rattle.oa_server.specs.Sharing.{IsLockTurn}
use Rattle.oa_table.specs.declared.name.CellName.{CellName}
use Rattle.oa_decision.specs.promise.Decided.{RequestTakesMemory, decided, refusal}
use Rattle.oa_decision.specs.promise.Lock.{locking}
use Rattle.oa_decision.specs.promise.States.{State}
use Rattle.oa_decision.specs.promise.Unlock.{unlocking}
use Rattle.oa_decision.specs.declared.decision.Decision.{Decision}
use Rattle.oa_decision.specs.declared.decision.Decision.TheVariants.{Answer, Change, Relock}
use Rattle.oa_decision.specs.declared.decision.LockChange.{LockChange}
use Rattle.oa_decision.specs.declared.decision.LockChange.TheVariants.{Lock, Unlock}
use Rattle.oa_decision.specs.declared.plan.Planned.{Planned}
use Rattle.oa_decision.specs.declared.refusal.Refusal.{Refusal}
use Rattle.oa_turn.proofs.Eventless.{undone}
use Rattle.oa_turn.proofs.SameLibrary.{ordinary_bank}
use Rattle.oa_turn.specs.promise.Events.{HasEvent, is_done}
use Rattle.oa_turn.specs.promise.Locking.{AsksLock, changes_lock, lock_asked_by, lock_decided}
use Rattle.oa_turn.specs.promise.Plans.{HoldsSame}
use Rattle.oa_turn.specs.Plans.{IsPlanned}
use Rattle.oa_turn.specs.promise.Turns.{MayLack, Ordinary, Turn}

abbrev pub OneRequest : Type 0
OneRequest = (body : List ℕ) (p q : Request) → Asks body p → Asks body q → p ≡ q

abbrev some_change : LockChange → Option LockChange
some_change change = Some change

same_change : (one two : LockChange) → some_change one ≡ some_change two → one ≡ two
same_change one two e = cc

-- a body asks for one change
pub one_change : OneRequest → (state : State) (body : List ℕ) (one two : LockChange) → AsksLock state body one → AsksLock state body two → one ≡ two
one_change one_request state body one two a b =
    same_change one two (sym a.is ∙ ap (λ (r : Request). lock_asked_by state r) (one_request body a.request b.request a.asked b.asked) ∙ b.is)

-- and no change of the table is planned for it
not_planned : (due : Result Decision Refusal) (change : LockChange) (planned : Planned) → lock_decided due ≡ Some change
    → due ≡ Ok (Change planned.event planned.fields) → ⊥
not_planned (Err why) change planned is at = cc
not_planned (Ok (Answer code fields)) change planned is at = cc
not_planned (Ok (Change event fields)) change planned is at = cc
not_planned (Ok (Relock relock fields)) change planned is at = cc

pub never_planned : OneRequest → (state : State) (body : List ℕ) (change : LockChange) (planned : Planned) → AsksLock state body change
    → IsPlanned state body planned → ⊥
never_planned one_request state body change planned asks is = by (changes_lock asks.request) asks.is
  where
    same : decided state asks.request ≡ Ok (Change planned.event planned.fields)
    same = ap (λ (r : Request). decided state r) (one_request body asks.request is.drafted.request asks.asked is.drafted.asked) ∙ is.drafted.decided_is

    by : (b : Bool) → (if b then lock_decided (decided state asks.request) else None) ≡ Some change → ⊥
    by true e = not_planned (decided state asks.request) change planned e same
    by false e = cc

-- it takes memory
is_decided : (due : Result Decision Refusal) (change : LockChange) → lock_decided due ≡ Some change → IsOk due
is_decided (Ok decision) change is = refl
is_decided (Err why) change is = cc

takes : (state : State) (request : Request) (change : LockChange) → lock_asked_by state request ≡ Some change → RequestTakesMemory state request
takes state (requests.Create class) change is = cc
takes state (requests.ByNumber kind number) change is = cc
takes state (requests.GetIds call) change is = cc
takes state (requests.ByCall by_call.Invoke call) change is = cc
takes state (requests.GetElement call indices) change is = cc
takes state (requests.PutElement call indices value) change is = cc
takes state (requests.Redimension call bound) change is = cc
takes state (requests.ByCall by_call.Lock call) change is = inl (inr (is_decided (locking state call) change is))
takes state (requests.ByCall by_call.Unlock call) change is = inl (inr (is_decided (unlocking state call) change is))
takes state (requests.Query query) change is = cc

lacks : (state : State) (body : List ℕ) (change : LockChange) → AsksLock state body change → MayLack state body
lacks state body change asks = record { request = asks.request; asked = asks.asked; takes = takes state asks.request change asks.is }

-- whose lock is whose behind the turn
pub owners_behind : OneRequest → (client : ℕ) (state : State) (body : List ℕ) (change : LockChange) (reply : ReplyValue) (locks locks' : List ClientLock)
    → AsksLock state body change
    → MayChange client change locks → (is_done reply ≡ true → locks' ≡ relocked_by client change locks) → (is_done reply ≡ false → locks' ≡ locks)
    → HasOwners client (shared state locks) body reply locks'
owners_behind one_request client state body change reply locks locks' asks may done not_done = record {
  done = λ other other_asks is.
      let same = one_change one_request state body change other asks other_asks in
      (subst (λ (c : LockChange). MayChange client c locks) same may, done is ∙ ap (λ (c : LockChange). relocked_by client c locks) same);
  others = λ none. absurd (none change asks);
  undone = not_done;
}

-- a turn of it
pub is_turn : OneRequest → (client : ℕ) (before after : State) (body : List ℕ) (change : LockChange) (reply : ReplyValue) (locks locks' : List ClientLock)
    → is_replacement body ≡ false → AsksLock before body change
    → Ordinary before body reply after → HasEvent before body reply [] → HoldsSame before after
    → MayChange client change locks → (is_done reply ≡ true → locks' ≡ relocked_by client change locks) → (is_done reply ≡ false → locks' ≡ locks)
    → IsLockTurn client body reply (shared before locks) (shared after locks')
is_turn one_request client before after body change reply locks locks' plain asks turn made same may done not_done = record {
  turn =
      inl (record {
        turn = inl (record { kind = plain; turn = turn });
        owners = owners_behind one_request client before body change reply locks locks' asks may
            done not_done;
      });
  made = made;
  same = same.table;
  bank = ordinary_bank before after body reply turn;
  plain = plain;
}

-- memory was refused
pub is_starved : (client : ℕ) (state : State) (body : List ℕ) (reply : ReplyValue) (locks : List ClientLock) → is_replacement body ≡ false
    → MayStarve body ⊎ MayLack state body → reply ≡ refusal (tag_at body) e_outofmemory None
    → IsLockTurn client body reply (shared state locks) (shared state locks)
is_starved client state body reply locks plain may told = record {
  turn = inl (record {
    turn = inl (record { kind = plain; turn = inr (inr (inr (record { may = may; answers = told; leaves = refl }))) });
    owners = record { done = λ change asks is. absurd (true≢false (sym is ∙ failed)); others = λ _. refl; undone = λ _. refl };
  });
  made = undone state body reply failed;
  same = refl;
  bank = refl;
  plain = plain;
}
  where
    failed : is_done reply ≡ false
    failed = ap is_done told

pub no_place : (client : ℕ) (state : State) (body : List ℕ) (change : LockChange) (reply : ReplyValue) (locks : List ClientLock) → is_replacement body ≡ false
    → AsksLock state body change → reply ≡ refusal (tag_at body) e_outofmemory None
    → IsLockTurn client body reply (shared state locks) (shared state locks)
no_place client state body change reply locks plain asks told = is_starved client state body reply locks plain (inr (lacks state body change asks)) told

-- no body that asks for another library asks for one
pub apart_asks_none : ((body : List ℕ) → is_replacement body ≡ true → IsStub body) → ((body : List ℕ) (q : Request) → IsStub body → Asks body q → ⊥)
    → (body : List ℕ) (state : State) (change : LockChange) → is_replacement body ≡ true → AsksLock state body change → ⊥
apart_asks_none is_stub asks_nothing body state change kind asks = asks_nothing body asks.request (is_stub body kind) asks.asked

-- ---- LOCK and UNLOCK
pub locked_turn : OneRequest → (client : ℕ) (before after : State) (body : List ℕ) (name : CellName) (reply : ReplyValue) (locks locks' : List ClientLock)
    → is_replacement body ≡ false → AsksLock before body (Lock name)
    → Ordinary before body reply after → HasEvent before body reply [] → HoldsSame before after
    → (is_done reply ≡ true → locks' ≡ with_one client name locks) → (is_done reply ≡ false → locks' ≡ locks)
    → IsLockTurn client body reply (shared before locks) (shared after locks')
locked_turn one_request client before after body name reply locks locks' plain asks turn made same added kept =
    is_turn one_request client before after body (Lock name) reply locks locks' plain asks turn made same tt added kept

pub given_turn : OneRequest → (client : ℕ) (before after : State) (body : List ℕ) (name : CellName) (reply : ReplyValue) (locks locks' : List ClientLock)
    → is_replacement body ≡ false → AsksLock before body (Unlock name)
    → Ordinary before body reply after → HasEvent before body reply [] → HoldsSame before after → owns client name locks ≡ true
    → (is_done reply ≡ true → locks' ≡ without_one client name locks) → (is_done reply ≡ false → locks' ≡ locks)
    → IsLockTurn client body reply (shared before locks) (shared after locks')
given_turn one_request client before after body name reply locks locks' plain asks turn made same mine given kept =
    is_turn one_request client before after body (Unlock name) reply locks locks' plain asks turn made same mine given kept

-- ---- what is no body of that kind
pub not_apart : (body : List ℕ) → (is_replacement body ≡ true → ⊥) → is_replacement body ≡ false
not_apart body no_way = by (is_replacement body) refl
  where
    by : (b : Bool) → is_replacement body ≡ b → is_replacement body ≡ false
    by true e = absurd (no_way e)
    by false e = e

-- a turn of any other body, behind which each lock has the owner that it had
pub plain_turn : (client : ℕ) (before mid after : State) (body : List ℕ) (reply : ReplyValue) (locks locks' : List ClientLock)
    → ((change : LockChange) → AsksLock before body change → ⊥) → mid ≡ before → locks' ≡ locks
    → Turn mid body reply after → TurnsFor client body reply (shared before locks) (shared after locks')
plain_turn client before mid after body reply locks locks' none same same_locks turn = inl (record {
  turn = subst (λ (s : State). Turn s body reply after) same turn;
  owners = record { done = λ change asks done. absurd (none change asks); others = λ _. same_locks; undone = λ _. same_locks };
})
