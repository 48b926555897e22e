-- The owners of the locks in the table of a server of many clients. (This project's choice.)
use Rattle.std.specs.Prelude.{◌≡◌, ℕ, true, List, [], map}
use Rattle.std.specs.List.Sorted.{IsStrictlySortedBy}
use Rattle.std.specs.Map.{keys_of}
use Rattle.std.specs.Ordering.{nat_cmp}
use Rattle.oa_group_commit.specs.promise.Groups.{Trace, Exchange, body_of, reply_of}
use Rattle.oa_image.specs.promise.Tables.{is_numbered}
use Rattle.oa_turn.specs.promise.ClientLocks.{of_others}
use Rattle.oa_turn.specs.Counts.{IsLedger}
use Rattle.oa_record.specs.promise.Replies.{ReplyValue}
use Rattle.oa_server.specs.promise.SharedMachine.{opened_shared, shared_machine, ClientReply, IsSharedTurn, Replies}
use Rattle.oa_server.specs.promise.SharedMachine.{Shared, SharedTurnOf, TurnsFor, all_released, tagged_body}
use Rattle.oa_mux.specs.promise.Readers.{Body, Brought}
use Rattle.oa_table.specs.Locks.{locks_at}
use Rattle.oa_table.specs.declared.name.CellName.{CellName}
use Rattle.oa_turn.specs.promise.Turns.{Run, Turn}

-- Each array of the table has the locks that clients have on it. The table's objects are numbered,
-- in the order of their numbers.
pub record HasLedger (one : Shared) : Type 0 where
  pub numbered : is_numbered one.state.table ≡ true
  pub ledger : IsLedger one.locks one.state.table

-- nobody else has a lock
abbrev pub OwnsAll : ℕ → Shared → Type 0
OwnsAll client one = of_others client one.locks ≡ []

-- so is the state after each turn, and after many
abbrev pub TurnsKeepLedger : Type 0
TurnsKeepLedger =
    (asked : Exchange ClientReply) (old new : Shared) → HasLedger old → IsSharedTurn asked old new → HasLedger new

-- whatever a client sends, in memory and over a store
abbrev pub ClientsKeepLedger : Type 0
ClientsKeepLedger =
    (client : ℕ) (brought : Brought) (told : ClientReply) (old new : Shared) → HasLedger old
    → SharedTurnOf client brought told old new → HasLedger new

abbrev pub RunsKeepLedger : Type 0
RunsKeepLedger = (old new : Shared) (entries : List (Exchange ClientReply)) → HasLedger old
    → Trace shared_machine old entries new → HasLedger new

-- and at the start of a session, when there are no locks
abbrev pub OpeningHasLedger : Type 0
OpeningHasLedger =
    (one : Shared) → is_numbered one.state.table ≡ true → IsStrictlySortedBy nat_cmp (keys_of one.state.table.objects)
    → HasLedger (opened_shared one)

-- after the end of a session no array is locked
abbrev pub EndUnlocksAll : Type 0
EndUnlocksAll = (old : Shared) (name : CellName) → HasLedger old → locks_at name (all_released old).state.table ≡ 0

-- a single client gets the replies of a server of one client
abbrev pub IsTurnOfOne : Type 0
IsTurnOfOne =
    (client : ℕ) (old new : Shared) (body : List ℕ) (reply : ReplyValue) → HasLedger old → OwnsAll client old
    → TurnsFor client body reply old new → Turn old.state body reply new.state × OwnsAll client new

abbrev pub IsRunOfOne : Type 0
IsRunOfOne =
    (client : ℕ) (old new : Shared) (entries : List (Exchange ClientReply)) (bodies : List (List ℕ))
    (replies : List ReplyValue)
    → HasLedger old → OwnsAll client old → Trace shared_machine old entries new
    → map body_of entries ≡ map (λ body. tagged_body client (Body body)) bodies
    → map reply_of entries ≡ map (λ reply. Replies client reply) replies → Run old.state bodies replies new.state
