-- The requests in the pieces of one client's stream, and those of all clients in the order in which they came. (This
-- project's choice.)
use Rattle.std.specs.Prelude.{ℕ, ◌+◌, ◌==◌, nat_lt, if◌then◌else◌, List, [], ◌∷◌, ◌++◌, length, take, drop, Option}
use Rattle.std.specs.Prelude.{Some, None}
use Rattle.std.specs.Int.{w32, from_le_bytes}
use Rattle.oa_model.specs.promise.Limits.{max_request_bytes}
use Rattle.oa_frame.specs.declared.ends.End.{End}
use Rattle.oa_frame.specs.declared.ends.End.TheVariants.{Closed, Cut, TooLong}
use Rattle.oa_mux.specs.promise.Marks.{StreamPiece, Byte, Last, Tagged, Of, Flush, States, tag_all, with_state_at}

-- an item of a client's stream: a body, or its end
pub data Brought : Type 0 where
  Body : List ℕ → Brought
  Ends : End → Brought

-- a reader of one client's stream: the items that a piece completes, and the state after it
abbrev pub Reads : Type 0 → Type 0
Reads Z = Z → StreamPiece → List Brought × Z

-- the items in the pieces of all clients, each with its client's tag, in the order in which their last pieces came
unfoldable pub asked_in : {Z : Type 0} → Reads Z → States Z → List (Tagged StreamPiece) → List (Tagged Brought)
asked_in reads states [] = []
asked_in reads states (Of client piece ∷ rest) = tag_all client (reads (states client) piece).0
    ++ asked_in reads (with_state_at client (reads (states client) piece).1 states) rest
asked_in reads states (Flush ∷ rest) = Flush ∷ asked_in reads states rest

-- The state of a present client: the bytes of its incomplete record; or its stream has ended, and what follows is
-- ignored.
pub data ClientState : Type 0 where
  Held : List ℕ → ClientState
  Over : ClientState

-- the number in the first four bytes
abbrev pub said : List ℕ → ℕ
said bytes = from_le_bytes w32 (take 4 bytes)

-- the items of a record of this length, given its bytes so far, at least four
abbrev pub record_of : ℕ → List ℕ → List Brought × Option ClientState
record_of n bytes = if n == 0 then (Ends Closed ∷ [], Some Over)
    else if nat_lt max_request_bytes n then (Ends TooLong ∷ [], Some Over)
    else if nat_lt (length bytes) (4 + n) then ([], Some (Held bytes))
    else (Body (drop 4 bytes) ∷ [], Some (Held []))

-- the items in the bytes of a record, of which only the last can complete one
unfoldable pub recorded : List ℕ → List Brought × Option ClientState
recorded bytes = if nat_lt (length bytes) 4 then ([], Some (Held bytes)) else record_of (said bytes) bytes

-- the item of a stream's end
abbrev pub ended : List ℕ → Brought
ended [] = Ends Closed
ended (x ∷ xs) = Ends Cut

-- The records of one client, as `records` has them: each a length and that many bytes. None: the client is not
-- present. It is present from its first piece to its end; after that its number may be used again.
unfoldable pub records_of : Reads (Option ClientState)
records_of None (Byte x) = recorded (x ∷ [])
records_of None Last = (Ends Closed ∷ [], None)
records_of (Some (Held bytes)) (Byte x) = recorded (bytes ++ x ∷ [])
records_of (Some (Held bytes)) Last = (ended bytes ∷ [], None)
records_of (Some Over) (Byte x) = ([], Some Over)
records_of (Some Over) Last = ([], None)
