-- Definitions for contracts and proofs, beside promise/Shared.
use Rattle.std.specs.Prelude.{◌≡◌, ◌<◌, ◌≤◌, ℕ, ◌-◌, ◌==◌, Bool, true, false, if◌then◌else◌, List, [], ◌∷◌, length}
use Rattle.std.specs.Prelude.{slice_range, take, ⊤}
use Rattle.oa_mux.specs.promise.Marks.{Tagged, Of, Flush}
use Rattle.oa_mux.specs.promise.Readers.{Body, Brought, Ends, asked_in, records_of}
use Rattle.oa_mux.specs.Readers.{IsWholeRecord}
use Rattle.oa_mux.specs.promise.Frames.{Broken, InHead, FramePlace, Within, begun, frame_head_of}
use Rattle.oa_mux.specs.promise.Steps.{client_state}
use Rattle.oa_mux.specs.Steps.{record_body}
use Rattle.oa_mux.specs.declared.frame.FrameHead.{FrameHead}
use Rattle.oa_mux.specs.declared.frame.FrameHead.TheVariants as head
use Rattle.oa_mux.specs.declared.streams.DemuxItem.{DemuxItem}
use Rattle.oa_mux.specs.declared.streams.DemuxItem.TheVariants as things
use Rattle.oa_mux.specs.promise.Shared.{place_behind, reads_nothing, StopsAtUnknown, states_behind, SharedState}
use Rattle.oa_mux.specs.promise.Shared.{Demultiplexes}

-- the place of the reading, given what is kept of it
abbrev pub frame_place : Bool → ℕ → ℕ → ℕ → List ℕ → FramePlace
frame_place broken left client have head = if broken then Broken else if left == 0 then InHead (take have head)
    else Within client left

abbrev pub arrived : DemuxItem → List (Tagged Brought)
arrived things.Nothing = []
arrived (things.Body client whole) = Of client (Body (record_body whole)) ∷ []
arrived (things.Ends client why) = Of client (Ends why) ∷ []
arrived things.Flush = Flush ∷ []
arrived things.Unknown = []

abbrev pub is_unknown : DemuxItem → Bool
is_unknown things.Nothing = false
is_unknown (things.Body client whole) = false
is_unknown (things.Ends client why) = false
is_unknown things.Flush = false
is_unknown things.Unknown = true

-- Unknown is returned exactly if these bytes reach an invalid head. They end with it.
pub record TellsUnknown (arrival : DemuxItem) (at : FramePlace) (bytes : List ℕ) : Type 0 where
  pub told : is_unknown arrival ≡ (if reads_nothing at then false else reads_nothing (place_behind at bytes))
  pub stops : reads_nothing at ≡ false → StopsAtUnknown at bytes

-- some bytes were consumed
pub record TakesSome (count all : ℕ) : Type 0 where
  pub some : 0 < count
  pub within : count ≤ all

abbrev pub IsHeads : FramePlace → Type 0
IsHeads (InHead front) = ⊤
IsHeads (Within client n) = ⊥
IsHeads Broken = ⊥

-- a whole head, after which the reading continues with its frame
pub record Begins (head : FrameHead) (old : SharedState) (all : List (Tagged Brought))
    (new : SharedState) : Type 0 where
  pub brought : asked_in records_of (client_state old.clients) (begun head).0 ≡ all
  pub place : new.place ≡ (begun head).1
  pub states : (client : ℕ)
      → states_behind records_of (client_state old.clients) (begun head).0 client ≡ client_state new.clients client

-- the first `count` bytes are a frame of this client with exactly one whole record
pub record IsRecordFrame (bytes : List ℕ) (client count : ℕ) : Type 0 where
  pub some : 12 < count
  pub within : count ≤ length bytes
  pub says : frame_head_of (take 8 bytes) ≡ head.Bytes client (count - 8)
  pub whole : IsWholeRecord (slice_range bytes 8 count)

-- The first `count` bytes contain a head, a length, and the body of one whole record, which ends with them. They
-- leave the stream as it was.
pub record BringsRecord (streams : SharedState) (bytes : List ℕ) (client count : ℕ) : Type 0 where
  pub some : 12 < count
  pub within : count ≤ length bytes
  pub apart : Demultiplexes streams (take count bytes) (Of client (Body (slice_range bytes 12 count)) ∷ []) streams
