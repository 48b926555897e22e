-- The frames of a session of many clients: which bytes of the stream are whose. (This project's choice.)
use Rattle.std.specs.Prelude.{ℕ, ◌-◌, ◌==◌, nat_lt, if◌then◌else◌, List, [], ◌∷◌, ◌++◌, length, take, drop}
use Rattle.std.specs.Int.{w32, from_le_bytes, to_le_bytes}
use Rattle.oa_mux.specs.promise.Marks.{StreamPiece, Byte, Last, Tagged, Of, Flush}
use Rattle.oa_mux.specs.declared.frame.FrameHead.{FrameHead}
use Rattle.oa_mux.specs.declared.frame.FrameHead.TheVariants as head

-- the number for all clients, which no client has
abbrev pub all_clients : ℕ
all_clients = 4294967295

-- the greatest number of bytes of a frame after its head
abbrev pub max_frame_bytes : ℕ
max_frame_bytes = 1048576

-- the meaning of a client's number and a length
abbrev pub headed : ℕ → ℕ → FrameHead
headed client n = if client == all_clients then (if n == 0 then head.Flush else head.Unknown)
    else if n == 0 then head.Last client
    else if nat_lt max_frame_bytes n then head.Unknown
    else head.Bytes client n

-- a frame's head is eight bytes: two numbers, each with its lowest byte first
abbrev pub frame_head_of : List ℕ → FrameHead
frame_head_of bytes = headed (from_le_bytes w32 (take 4 bytes)) (from_le_bytes w32 (drop 4 bytes))

abbrev pub frame_head : ℕ → ℕ → List ℕ
frame_head client n = to_le_bytes w32 client ++ to_le_bytes w32 n

-- a place in the reading of frames: in a head, of which these bytes came; within a client's bytes, of which this
-- many, at least one, are still to come; after an invalid head, where everything is ignored
pub data FramePlace : Type 0 where
  InHead : List ℕ → FramePlace
  Within : ℕ → ℕ → FramePlace
  Broken : FramePlace

-- after a head
abbrev pub begun : FrameHead → List (Tagged StreamPiece) × FramePlace
begun (head.Bytes client n) = ([], Within client n)
begun (head.Last client) = (Of client Last ∷ [], InHead [])
begun head.Flush = (Flush ∷ [], InHead [])
begun head.Unknown = ([], Broken)

-- after one of a client's bytes
abbrev pub place_within : ℕ → ℕ → FramePlace
place_within client n = if nat_lt 1 n then Within client (n - 1) else InHead []

-- the bytes of a head so far
abbrev pub heading : List ℕ → List (Tagged StreamPiece) × FramePlace
heading bytes = if nat_lt (length bytes) 8 then ([], InHead bytes) else begun (frame_head_of bytes)

-- the meaning of a byte, and the place after it
abbrev pub framed : FramePlace → ℕ → List (Tagged StreamPiece) × FramePlace
framed (InHead front) x = heading (front ++ x ∷ [])
framed (Within client n) x = (Of client (Byte x) ∷ [], place_within client n)
framed Broken x = ([], Broken)

-- the meaning of these bytes
unfoldable pub pieces_in : FramePlace → List ℕ → List (Tagged StreamPiece)
pieces_in at [] = []
pieces_in at (x ∷ xs) = (framed at x).0 ++ pieces_in (framed at x).1 xs

-- a frame of a client's bytes
abbrev pub frame_of : ℕ → List ℕ → List ℕ
frame_of client bytes = frame_head client (length bytes) ++ bytes
