-- The frames of replies: what is sent to many clients, in one stream of bytes. (This project's choice.)
use Rattle.std.specs.Prelude.{ℕ, List, [], ◌∷◌, ◌++◌}
use Rattle.oa_frame.specs.promise.Framings.{records}
use Rattle.oa_mux.specs.promise.Frames.{frame_of}

-- what is sent is a client's number with a reply without a length, or with nothing: the client has had its last reply

-- a reply as a session of records has it
abbrev pub framed_reply : List ℕ → List ℕ
framed_reply [] = []
framed_reply (x ∷ xs) = records.spelled (x ∷ xs)

-- one frame
abbrev pub spelled_frame : ℕ × List ℕ → List ℕ
spelled_frame frame = frame_of frame.0 (framed_reply frame.1)

-- one after another
unfoldable pub spelled_frames : List (ℕ × List ℕ) → List ℕ
spelled_frames [] = []
spelled_frames (frame ∷ frames) = spelled_frame frame ++ spelled_frames frames

-- those of one turn after another
unfoldable pub spelled_told : List (List (ℕ × List ℕ)) → List ℕ
spelled_told [] = []
spelled_told (told ∷ tolds) = spelled_frames told ++ spelled_told tolds
