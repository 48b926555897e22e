-- Definitions for contracts and proofs, beside promise/Framings.
use Rattle.std.specs.Prelude.{◌≡◌, ◌⊎◌, ℕ, ◌-◌, ◌≤◌, max, Bool, true, false, List, [], length, drop, take, Option, ⊤}
use Rattle.std.specs.Io.KnownBytes as known
use Rattle.oa_stream.specs.promise.Sink.{Output, Writes, Breaks, IsHandedOn}
use Rattle.oa_frame.specs.declared.framing.Read.{Read}
use Rattle.oa_frame.specs.declared.framing.Read.TheVariants as read
use Rattle.oa_frame.specs.promise.Known.{Known}
use Rattle.oa_frame.specs.promise.Framings.{Frames, is_read_fault}

-- a body of n bytes: the last ones consumed of the read-ahead buffer, or the first ones of a buffer
abbrev pub body_of_read : ℕ → Bool → List ℕ → List ℕ → List ℕ
body_of_read n true buffer passed = drop (length passed - n) passed
body_of_read n false buffer passed = take n buffer

-- what was read at the record with this number; nothing if the writer failed
abbrev pub Inputs : Frames → Read → ℕ → List ℕ → List ℕ → Option (List ℕ) → Option (List ℕ) → Type 0
Inputs f (read.Body n ahead) number buffer passed old new =
    Known (λ bytes rest. f.Next bytes (body_of_read n ahead buffer passed) rest) old new
Inputs f (read.Ends why) number buffer passed old new = f.Can number why × Known (f.Stop why) old new
Inputs f read.Unwritten number buffer passed old new = known.Keeps old new

-- The writer still has everything that was put, and has been flushed if the reader was called.
pub record HandsOver (old new : Output) (calls calls' : ℕ) : Type 0 where
  pub keeps : Writes old new []
  pub first : (calls' ≡ calls) ⊎ IsHandedOn new

-- so it is, or the writer failed and the reader was not called
abbrev pub Hands : Read → Output → Output → ℕ → ℕ → Type 0
Hands (read.Body n ahead) old new calls calls' = HandsOver old new calls calls'
Hands (read.Ends why) old new calls calls' = HandsOver old new calls calls'
Hands read.Unwritten old new calls calls' = Breaks old new [] × (calls' ≡ calls)

-- the body is at that place
abbrev pub IsBodyAt : Read → List ℕ → List ℕ → Type 0
IsBodyAt (read.Body n true) buffer passed = n ≤ length passed
IsBodyAt (read.Body n false) buffer passed = n ≤ length buffer
IsBodyAt (read.Ends why) buffer passed = ⊤
IsBodyAt read.Unwritten buffer passed = ⊤

-- the length of the buffer: at most what it was, or the body's length
abbrev pub GrowsTo : Read → ℕ → ℕ → Type 0
GrowsTo (read.Body n ahead) old new = new ≤ max old n
GrowsTo (read.Ends why) old new = ⊤
GrowsTo read.Unwritten old new = new ≤ old

abbrev pub ends_in_read_fault : Read → Bool
ends_in_read_fault (read.Body n ahead) = false
ends_in_read_fault (read.Ends why) = is_read_fault why
ends_in_read_fault read.Unwritten = false

-- the writer did not fail
abbrev pub WriterStands : Read → Type 0
WriterStands (read.Body n ahead) = ⊤
WriterStands (read.Ends why) = ⊤
WriterStands read.Unwritten = ⊥
