-- What one of many clients receives, and which frames it does. (This project's choice.)
use Rattle.std.specs.Prelude.{◌≡◌, ◌<◌, ◌^◌, ℕ, List, [], ◌∷◌, ◌++◌, length, map}
use Rattle.oa_server.specs.promise.SharedSessions.{frames_of}
use Rattle.oa_server.specs.promise.SharedMachine.{ClientReply}
use Rattle.oa_mux.specs.promise.Marks.{Tagged}
use Rattle.oa_mux.specs.Marks.{own}
use Rattle.oa_mux.specs.promise.Outgoing.{framed_reply, spelled_frames}
use Rattle.oa_mux.specs.promise.Readers.{Brought}
use Rattle.oa_linearizable.specs.promise.Histories.{IsFirstPart, Operation, of_client}

-- the client and the input of an operation, and its client and its result
abbrev pub input_of : {I R : Type 0} → Operation I R → ℕ × I
input_of one = (one.client, one.input)

abbrev pub result_of : {I R : Type 0} → Operation I R → ℕ × R
result_of one = (one.client, one.result)

-- the bytes of the frames of some replies, one after another
abbrev pub frame_bytes : ℕ × List ℕ → List ℕ
frame_bytes frame = frame.1

unfoldable pub bytes_told : List ClientReply → List (List ℕ)
bytes_told [] = []
bytes_told (reply ∷ replies) = map frame_bytes (frames_of reply) ++ bytes_told replies

-- A client was served, by an order of the operations of all clients. This order contains a prefix of the client's own
-- requests, in their order, and nothing else of this client. The frames with its number are a prefix of the results
-- of these operations, in order, and nothing else.
pub record ClientIsServed (client : ℕ) (asks : List (Tagged Brought)) (frames : List (ℕ × List ℕ))
    (order : List (Operation Brought ClientReply)) : Type 0 where
  pub requests : IsFirstPart (of_client client (map input_of order)) (own client asks)
  pub replies : List ClientReply
  pub results : IsFirstPart replies (of_client client (map result_of order))
  pub heard : of_client client frames ≡ bytes_told replies

-- ---- the bytes of frames

-- the number and the length of a frame have four bytes each
pub record FitsFrame (frame : ℕ × List ℕ) : Type 0 where
  pub client : frame.0 < 2 ^ 32
  pub length_fits : length (framed_reply frame.1) < 2 ^ 32

abbrev pub AllFitFrames : List (ℕ × List ℕ) → Type 0
AllFitFrames [] = Unit {0}
AllFitFrames (frame ∷ frames) = FitsFrame frame × AllFitFrames frames

-- Bytes are at most one list of frames.
abbrev pub FramesOutAreFrames : Type 0
FramesOutAreFrames = (one two : List (ℕ × List ℕ)) → AllFitFrames one → AllFitFrames two
    → spelled_frames one ≡ spelled_frames two → one ≡ two
