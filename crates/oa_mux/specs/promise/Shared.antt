-- Demultiplexing one stream of the frames of many clients. (This project's choice.)
use Rattle.std.specs.Prelude.{◌≡◌, ℕ, Bool, true, false, List, [], ◌∷◌, ⊤}
use Rattle.std.specs.List.Sorted.{IsStrictlySortedBy}
use Rattle.std.specs.Map.{keys_of}
use Rattle.std.specs.Ordering.{nat_cmp}
use Rattle.oa_mux.specs.promise.Marks.{Tagged, StreamPiece, Of, Flush, States, with_state_at}
use Rattle.oa_mux.specs.promise.Readers.{Brought, ClientState, Reads, asked_in, records_of}
use Rattle.oa_mux.specs.promise.Frames.{Broken, InHead, FramePlace, Within, framed, pieces_in}
use Rattle.oa_mux.specs.promise.Steps.{client_state}

-- the place of the reading after these bytes
unfoldable pub place_behind : FramePlace → List ℕ → FramePlace
place_behind at [] = at
place_behind at (x ∷ xs) = place_behind (framed at x).1 xs

-- after an invalid head
abbrev pub reads_nothing : FramePlace → Bool
reads_nothing (InHead front) = false
reads_nothing (Within client n) = false
reads_nothing Broken = true

-- none of these bytes, read from this place on, comes after an invalid head
unfoldable pub StopsAtUnknown : FramePlace → List ℕ → Type 0
StopsAtUnknown at [] = ⊤
StopsAtUnknown at (x ∷ xs) = (reads_nothing at ≡ false) × StopsAtUnknown (framed at x).1 xs

-- the states of the clients after these pieces
unfoldable pub states_behind : {Z : Type 0} → Reads Z → States Z → List (Tagged StreamPiece) → States Z
states_behind reads states [] = states
states_behind reads states (Of client piece ∷ rest) =
    states_behind reads (with_state_at client (reads (states client) piece).1 states) rest
states_behind reads states (Flush ∷ rest) = states_behind reads states rest

-- the place of the reading, and the present clients
pub record SharedState : Type 0 where
  pub place : FramePlace
  pub clients : List (ℕ × ClientState)

abbrev pub starting : SharedState
starting = record { place = InHead []; clients = [] }

-- the numbers of the present clients rise, so each occurs once
abbrev pub Rises : List (ℕ × ClientState) → Type 0
Rises clients = IsStrictlySortedBy nat_cmp (keys_of clients)

-- from this state on, these bytes contain these items in this order, and leave that state
pub record Demultiplexes (old : SharedState) (bytes : List ℕ) (all : List (Tagged Brought))
    (new : SharedState) : Type 0 where
  pub brought : asked_in records_of (client_state old.clients) (pieces_in old.place bytes) ≡ all
  pub place : place_behind old.place bytes ≡ new.place
  pub states : (client : ℕ)
      → states_behind records_of (client_state old.clients) (pieces_in old.place bytes) client
      ≡ client_state new.clients client

-- whose bytes the next ones are
abbrev pub IsClients : FramePlace → Type 0
IsClients (InHead front) = ⊥
IsClients (Within client n) = ⊤
IsClients Broken = ⊥
