-- The order in which clients have their turns. (This project's choice.)
use Rattle.std.specs.Prelude.{◌≡◌, ◌<◌, ◌≤◌, ℕ, ◌+◌, ◌-◌, Bool, if◌then◌else◌, List, [], ◌∷◌, ◌++◌, length, take}
use Rattle.std.specs.Prelude.{slice_range}
use Rattle.oa_gateway.specs.declared.queue.NextTurn.{NextTurn}
use Rattle.oa_gateway.specs.declared.queue.NextTurn.TheVariants.{Never, Last, Kept}
use Rattle.oa_gateway.specs.declared.queue.Queue.{Queue}

-- after a turn: whether the client has more requests, and the batch took some of them
abbrev pub next_turn : Bool → Bool → NextTurn
next_turn waits took = if waits then (if took then Last else Kept) else Never

-- While a batch is made: the clients that have the first turns of the next one, and those that wait for turns in this
-- one.
pub record ClientQueue : Type 0 where
  pub kept : List ℕ
  pub waiting : List ℕ

abbrev pub begun_queue : List ℕ → ClientQueue
begun_queue clients = record { kept = []; waiting = clients }

abbrev pub enqueued : ℕ → ClientQueue → ClientQueue
enqueued client q = record { kept = q.kept; waiting = q.waiting ++ client ∷ [] }

-- the first that waits has its turn, and waits for its next one
abbrev pub goes_on : List ℕ → List ℕ → NextTurn → ClientQueue
goes_on kept [] next = record { kept = kept; waiting = [] }
goes_on kept (client ∷ waiting) Never = record { kept = kept; waiting = waiting }
goes_on kept (client ∷ waiting) Last = record { kept = kept; waiting = waiting ++ client ∷ [] }
goes_on kept (client ∷ waiting) Kept = record { kept = kept ++ client ∷ []; waiting = waiting }

abbrev pub turn_of : ClientQueue → NextTurn → ClientQueue
turn_of q next = goes_on q.kept q.waiting next

unfoldable pub after_turns : ClientQueue → List NextTurn → ClientQueue
after_turns q [] = q
after_turns q (next ∷ turns) = after_turns (turn_of q next) turns

-- the clients that wait when the next batch is made
abbrev pub next_batch : ClientQueue → List ℕ
next_batch q = q.kept ++ q.waiting

-- this client waits no more
pub record IsWithout (client : ℕ) (old new : ClientQueue) : Type 0 where
  pub kept : new.kept ≡ old.kept
  pub front : List ℕ
  pub back : List ℕ
  pub before : old.waiting ≡ front ++ client ∷ back
  pub after : new.waiting ≡ front ++ back

-- ---- as the gateway keeps them, in an array

abbrev pub queue_of : Queue → List ℕ → ClientQueue
queue_of q places = record { kept = take q.kept places; waiting = slice_range places q.next q.end }

-- an array of this number of places has the queue
abbrev pub IsQueue : Queue → ℕ → Type 0
IsQueue q places = (q.kept ≤ q.next) × (q.next ≤ q.end) × (q.end ≤ places)

abbrev pub HasQueueRoom : Queue → ℕ → Type 0
HasQueueRoom q places = IsQueue q places × (q.kept + (q.end - q.next) < places)

-- ---- turns

-- this number of clients is before this client
pub record IsQueuedBehind (client before : ℕ) (clients : List ℕ) : Type 0 where
  pub front : List ℕ
  pub back : List ℕ
  pub there : clients ≡ front ++ client ∷ back
  pub count : length front ≡ before

-- Each of these turns leaves one client fewer before it, so that its own turn is the next one at
-- last.
pub record WaitsInQueue (client before : ℕ) (clients : List ℕ) (turns : List NextTurn) : Type 0 where
  pub left : ℕ
  pub fewer : left + length turns ≡ before
  pub there : IsQueuedBehind client left (after_turns (begun_queue clients) turns).waiting

-- the number of these turns in which the batch took nothing
unfoldable pub count_kept : List NextTurn → ℕ
count_kept [] = 0
count_kept (Never ∷ turns) = count_kept turns
count_kept (Last ∷ turns) = count_kept turns
count_kept (Kept ∷ turns) = 1 + count_kept turns

-- If the batch ends with them, those clients are before it when the next one begins: one fewer for
-- each other turn.
pub record IsNotOvertaken (client before : ℕ) (clients : List ℕ) (turns : List NextTurn) : Type 0 where
  pub left : ℕ
  pub fewer : left + length turns ≡ before + count_kept turns
  pub there : IsQueuedBehind client left (next_batch (after_turns (begun_queue clients) turns))
