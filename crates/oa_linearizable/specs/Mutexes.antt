-- LOCK as a mutex of many clients. (This project's choice.)
use Rattle.std.specs.Prelude.{◌≡◌, ◌⊎◌, ◌<◌, ◌^◌, ℕ, ◌+◌, true, false, List, [], ◌∷◌}
use Rattle.oa_frame.specs.declared.ends.End.{End}
use Rattle.oa_turn.specs.promise.ClientLocks.{is_cell}
use Rattle.oa_record.specs.promise.Replies.{ReplyValue, number_field}
use Rattle.oa_server.specs.Ledgers.{HasLedger}
use Rattle.oa_server.specs.promise.SharedMachine.{ClientReply, Replies, Shared}
use Rattle.oa_mux.specs.promise.Readers.{Body, Brought, Ends}
use Rattle.oa_table.specs.Locks.{locks_at}
use Rattle.oa_table.specs.declared.name.CellName.{CellName}
use Rattle.oa_decision.specs.declared.decision.LockChange.{LockChange}
use Rattle.oa_decision.specs.declared.decision.LockChange.TheVariants.{Lock, Unlock}
use Rattle.oa_turn.specs.promise.Events.{is_done}
use Rattle.oa_turn.specs.promise.Locking.{AsksLock}
use Rattle.oa_linearizable.specs.promise.Histories.{IsLegal, Operation}
use Rattle.oa_linearizable.specs.promise.Tables.{the_table}

-- an operation asked for this change of a lock, from this state on, and was answered S_OK; the fields of the reply
pub record ChangesLock (change : LockChange) (old : Shared) (one : Operation Brought ClientReply) (fields : List ℕ)
    : Type 0 where
  pub body : List ℕ
  pub reply : ReplyValue
  pub input_is : one.input ≡ Body body
  pub result_is : one.result ≡ Replies one.client reply
  pub asks : AsksLock old.state body change
  pub done : is_done reply ≡ true
  pub fields_are : reply.body ≡ fields

-- the client gives up a lock of the array in this cell: by an UNLOCK that was done, or by its end
pub record Unlocks (name : CellName) (old : Shared) (one : Operation Brought ClientReply) : Type 0 where
  pub other : CellName
  pub same : is_cell other name ≡ true
  pub fields : List ℕ
  pub changes : ChangesLock (Unlock other) old one fields

abbrev pub GivesBack : ℕ → CellName → Shared → Operation Brought ClientReply → Type 0
GivesBack client name old one =
    (one.client ≡ client) × (((why : End) × (one.input ≡ Ends why)) ⊎ Unlocks name old one)

-- the client does so in none of these operations
abbrev pub KeepsLock : ℕ → CellName → (old : Shared) → (operations : List (Operation Brought ClientReply))
    → (new : Shared) → IsLegal (the_table false) old operations new → Type 0
KeepsLock client name old [] new run = Unit {0}
KeepsLock client name old (one ∷ operations) new run =
    (GivesBack client name old one → ⊥) × KeepsLock client name run.0 operations new run.2

-- After a client has locked an array, and until its UNLOCK of that array or its end, no LOCK of that array is
-- answered 1, for any client. An array has fewer than 2^32 locks.
abbrev pub LockIsAMutex : Type 0
LockIsAMutex =
    (client : ℕ) (name other : CellName) (first second : Operation Brought ClientReply)
    (between : List (Operation Brought ClientReply)) (fields : List ℕ) (a b c d : Shared)
    (run : IsLegal (the_table false) b between c)
    → HasLedger a → first.client ≡ client → ChangesLock (Lock name) a first fields
    → (the_table false).Step first.client first.input first.result a b → KeepsLock client name b between c run
    → is_cell other name ≡ true → locks_at other c.state.table + 1 < 2 ^ 32
    → ChangesLock (Lock other) c second (number_field 1)
    → (the_table false).Step second.client second.input second.result c d → ⊥
