-- The bytes that the gateway puts into the stream to the server. (This project's choice.)
use Rattle.std.specs.Prelude.{◌≡◌, ◌<◌, ◌≤◌, ℕ, ◌+◌, ◌*◌, ◌/◌, List, [], ◌++◌, length, take}
use Rattle.oa_mux.specs.promise.Frames.{InHead, max_frame_bytes, pieces_in}
use Rattle.oa_mux.specs.promise.Marks.{StreamPiece, tag_all}
use Rattle.oa_gateway.specs.Places.{Deed, MayDo, Number, after_deed, puts}

-- After a batch the gateway itself ends as a client with this number. Its end is answered after all
-- earlier requests.
abbrev pub gateway_number : ℕ
gateway_number = 4294967294

-- demultiplexed as by the server, these bytes are these pieces of one client's stream, whatever
-- follows
pub record SpellsFrames (number : ℕ) (bytes : List ℕ) (all : List StreamPiece) : Type 0 where
  pub read : (rest : List ℕ) → pieces_in (InHead []) (bytes ++ rest) ≡ tag_all number all ++ pieces_in (InHead []) rest

-- the space that this number of bytes needs, with the heads of their frames
abbrev pub room_for : ℕ → ℕ
room_for count = count + 8 * (count / max_frame_bytes + 1)

-- this was done with a client's number, and the first `count` of these bytes go to the server for
-- it
pub record PutsDeed (deed : Deed) (number count : ℕ) (out : List ℕ) (old new : Number) : Type 0 where
  pub client : number < gateway_number
  pub within : count ≤ length out
  pub may : MayDo old deed
  pub goes : new ≡ after_deed old deed
  pub spells : SpellsFrames number (take count out) (puts old.standing deed)
