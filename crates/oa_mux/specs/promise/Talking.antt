-- A session of many clients over a reader and a writer. (This project's choice.)
use Rattle.std.specs.Prelude.{◌≡◌, ◌≢◌, ◌⊎◌, ℕ, ◌+◌, ◌≤◌, Bool, true, false, if◌then◌else◌, List, [], ◌∷◌, ◌++◌, length}
use Rattle.std.specs.Prelude.{Some}
use Rattle.std.specs.Io.KnownBytes.{Consumes, IsAtEnd}
use Rattle.oa_model.specs.promise.Limits.{max_records}
use Rattle.oa_stream.specs.promise.Source.{Input, later}
use Rattle.oa_stream.specs.promise.Sink.{Output, Writes, Breaks, IsHandedOn}
use Rattle.oa_mux.specs.promise.Answering.{SharedTurn}
use Rattle.oa_mux.specs.promise.Frames.{Broken, FramePlace, InHead, Within}
use Rattle.oa_mux.specs.promise.Marks.{Flush, Last, Of, Tagged, tag_all}
use Rattle.oa_mux.specs.promise.Outgoing.{spelled_frames, spelled_told}
use Rattle.oa_mux.specs.promise.Readers.{Body, Brought, ClientState, Ends, records_of}
use Rattle.oa_mux.specs.promise.Shared.{Demultiplexes, IsClients, Rises, SharedState, StopsAtUnknown, reads_nothing}
use Rattle.oa_mux.specs.declared.session_end.SessionEnd.{SessionEnd}
use Rattle.oa_mux.specs.declared.session_end.SessionEnd.TheVariants as over

-- before a body that comes alone there is a *now*
abbrev pub parting : (List ℕ → Bool) → Tagged Brought → List (Tagged Brought)
parting barrier (Of client (Body body)) = if barrier body then Flush ∷ [] else []
parting barrier (Of client (Ends why)) = []
parting barrier Flush = []

unfoldable pub parted : (List ℕ → Bool) → List (Tagged Brought) → List (Tagged Brought)
parted barrier [] = []
parted barrier (ask ∷ asks) = parting barrier ask ++ ask ∷ parted barrier asks

-- the ends of all present clients, the lowest number first
unfoldable pub ends_in : List (ℕ × ClientState) → List (Tagged Brought)
ends_in [] = []
ends_in (client ∷ clients) = tag_all client.0 (records_of (Some client.1) Last).0 ++ ends_in clients

-- one turn after another, and what is sent at each
abbrev pub AllTurned : {S : Type 0} → SharedTurn S → S → List (Tagged Brought) → List (List (ℕ × List ℕ)) → S → Type 0
AllTurned turn old [] [] new = new ≡ old
AllTurned {S} turn old (ask ∷ asks) (told ∷ tolds) new =
    (mid : S) × turn old ask told mid × AllTurned turn mid asks tolds new
AllTurned turn old [] (told ∷ tolds) new = ⊥
AllTurned turn old (ask ∷ asks) [] new = ⊥

-- Of all bytes that a writer received, `gone` have left it; `before` is how many it received before these turns. At
-- each *now*, everything had left that it received before.
abbrev pub HasLeftAtNow : ℕ → ℕ → List (Tagged Brought) → List (List (ℕ × List ℕ)) → Type 0
HasLeftAtNow gone before [] tolds = Unit {0}
HasLeftAtNow gone before (ask ∷ asks) [] = Unit {0}
HasLeftAtNow gone before (Flush ∷ asks) (told ∷ tolds) =
    (before + length (spelled_frames told) ≤ gone)
    × HasLeftAtNow gone (before + length (spelled_frames told)) asks tolds
HasLeftAtNow gone before (Of client x ∷ asks) (told ∷ tolds) =
    HasLeftAtNow gone (before + length (spelled_frames told)) asks tolds

-- what was sent last
abbrev pub newest : List (List (ℕ × List ℕ)) → List (ℕ × List ℕ)
newest [] = []
newest (told ∷ []) = told
newest (told ∷ (next ∷ tolds)) = newest (next ∷ tolds)

-- this was asked and answered, and everything that was sent was put
pub record HasTold {S : Type 0} (turn : SharedTurn S) (asks : List (Tagged Brought)) (out out' : Output)
    (old new : S) : Type 0 where
  pub tolds : List (List (ℕ × List ℕ))
  pub run : AllTurned turn old asks tolds new
  pub written : Writes out out' (spelled_told tolds)
  pub left : HasLeftAtNow (length written.gone) (length out.kept) asks tolds

-- The writer failed: this was asked and answered, then these ends, and last a *now*. A prefix of what was sent has
-- left; the replies at the last *now* are lost if the writer had failed before. At most the bytes that the writer may
-- keep back, and those that it received last, are lost: so nothing but that *now* was answered after it had failed.
pub record LosesWriter {S : Type 0} (turn : SharedTurn S) (asks ends : List (Tagged Brought)) (out out' : Output)
    (old new : S) : Type 0 where
  pub given : List (List (ℕ × List ℕ))
  pub unheard : List (List (ℕ × List ℕ))
  pub run : AllTurned turn old (asks ++ (ends ++ Flush ∷ [])) (given ++ unheard) new
  pub one : length unheard ≤ 1
  pub torn : Breaks out out' (spelled_told given)
  pub few : length torn.lost ≤ out.back + length (spelled_frames (newest given))
  pub left : HasLeftAtNow (length torn.gone) (length out.kept) asks given

-- the end of the input, given the place of the reading
abbrev pub input_end : FramePlace → SessionEnd
input_end (InHead []) = over.Closed
input_end (InHead (x ∷ xs)) = over.Cut
input_end (Within client n) = over.Cut
input_end Broken = over.Unknown

-- Why the reading ended: the input ended, between two frames or within one; a head was invalid; an allocation for a
-- client's bytes failed; the reader failed, or its greatest number of bytes and calls was reached.
abbrev pub IsEndOf : SessionEnd → FramePlace → ℕ → Input → Type 0
IsEndOf over.Closed place used input = (input_end place ≡ over.Closed) × IsAtEnd input.left
IsEndOf over.Cut place used input = (input_end place ≡ over.Cut) × IsAtEnd input.left
IsEndOf over.Unknown place used input = reads_nothing place ≡ true
IsEndOf over.Memory place used input = IsClients place
IsEndOf over.ReadFault place used input = (input.faulted ≡ true) ⊎ (max_records ≤ used)
IsEndOf over.WriteFault place used input = ⊥

-- If the input has ended, or nothing more can be read, the present clients end.
abbrev pub ends_at : SessionEnd → List (ℕ × ClientState) → List (Tagged Brought)
ends_at over.Closed clients = ends_in clients
ends_at over.Cut clients = ends_in clients
ends_at over.Unknown clients = ends_in clients
ends_at over.Memory clients = []
ends_at over.ReadFault clients = []
ends_at over.WriteFault clients = []

-- everything was answered and has left: the requests, the ends, the lowest number first, and a last *now*
pub record TellsAll {S : Type 0} (turn : SharedTurn S) (asks : List (Tagged Brought)) (why : SessionEnd)
    (streams : SharedState) (used : ℕ)
    (input : Input) (out out' : Output) (old new : S) : Type 0 where
  pub ended : IsEndOf why streams.place used input
  pub rise : Rises streams.clients
  pub told : HasTold turn (asks ++ (ends_at why streams.clients ++ Flush ∷ [])) out out' old new
  pub handed_on : IsHandedOn out'

-- the writer failed, in the requests or in the ends
pub record FailsToTell {S : Type 0} (turn : SharedTurn S) (asks : List (Tagged Brought)) (why : SessionEnd)
    (clients : List (ℕ × ClientState))
    (out out' : Output) (old new : S) : Type 0 where
  pub ended : why ≡ over.WriteFault
  pub ends : List (Tagged Brought)
  pub others : List (Tagged Brought)
  pub are : ends ++ others ≡ ends_in clients
  pub rise : ends ≢ [] → Rises clients
  pub loses : LosesWriter turn asks ends out out' old new

-- A whole session of many clients, from some state of the reading on: the bytes that were consumed; the requests of
-- all clients in them, in the order in which they came; and their replies, with a *now* before each body that comes
-- alone. No byte is consumed after an invalid head. A steady reader is called at most once more than bytes were
-- consumed: each call but the last returns at least one.
pub record ServesClients {S : Type 0} (barrier : List ℕ → Bool) (turn : SharedTurn S) (from : SharedState)
    (input input' : Input)
    (out out' : Output) (old new : S) (why : SessionEnd) : Type 0 where
  pub taken : List ℕ
  pub asked : List (Tagged Brought)
  pub streams : SharedState
  pub calls : ℕ
  pub read : Consumes input.left input'.left taken
  pub apart : Demultiplexes from taken asked streams
  pub stops : StopsAtUnknown from.place taken
  pub clock : input'.calls ≡ later calls input.calls
  pub sound : input.steady ≡ true → input'.faulted ≡ false
  pub paced : input.steady ≡ true → calls ≤ length taken + 1
  pub done : TellsAll turn (parted barrier asked) why streams (calls + length taken) input' out out' old new
      ⊎ FailsToTell turn (parted barrier asked) why streams.clients out out' old new
