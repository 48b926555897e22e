-- Definitions for contracts and proofs, beside promise/Source.
use Rattle.std.specs.Prelude.{◌≡◌, ℕ, ◌<◌, ◌≤◌, Bool, true, false, List, length, [], take, Option, ⊤}
use Rattle.std.specs.Io.KnownBytes.{Consumes, Keeps, IsAtEnd, prepend_known}
use Rattle.oa_stream.specs.declared.source.Next.{Next}
use Rattle.oa_stream.specs.declared.source.Next.TheVariants.{Bytes, End, Again, Fault}
use Rattle.oa_stream.specs.promise.Source.{Input, later}

-- the first of the bytes to come are at the start of the buffer, or there are none, or nothing came
abbrev pub GivesNext : Next → Option (List ℕ) → Option (List ℕ) → List ℕ → Type 0
GivesNext (Bytes n) old new buffer = (0 < n) × (n ≤ length buffer) × Consumes old new (take n buffer)
GivesNext End old new buffer = Keeps old new × IsAtEnd new
GivesNext Again old new buffer = Keeps old new
GivesNext Fault old new buffer = Keeps old new

abbrev pub is_fault : Next → Bool
is_fault (Bytes n) = false
is_fault End = false
is_fault Again = false
is_fault Fault = true

-- neither a failure nor an interruption
abbrev pub IsOn : Next → Type 0
IsOn (Bytes n) = ⊤
IsOn End = ⊤
IsOn Again = ⊥
IsOn Fault = ⊥

-- one call into a buffer
pub record Fills (result : Next) (old new : Input) (buffer : List ℕ) : Type 0 where
  pub bytes : GivesNext result old.left new.left buffer
  pub clock : new.calls ≡ later 1 old.calls
  pub fault : new.faulted ≡ is_fault result
  pub on : old.steady ≡ true → IsOn result
  pub steady : old.steady ≡ true → new.steady ≡ true

-- the contents of a buffer that one call filled
abbrev pub FillsBuffer : Next → Option (List ℕ) → List ℕ → Type 0
FillsBuffer (Bytes n) left front = 0 < length front
FillsBuffer End left front = (front ≡ []) × IsAtEnd left
FillsBuffer Again left front = front ≡ []
FillsBuffer Fault left front = front ≡ []

-- one call into a buffer with these bytes not yet consumed
pub record Loads (result : Next) (old new : Input) (front : List ℕ) : Type 0 where
  pub kept : Keeps old.left (prepend_known front new.left)
  pub holds : FillsBuffer result new.left front
  pub clock : new.calls ≡ later 1 old.calls
  pub fault : new.faulted ≡ is_fault result
  pub on : old.steady ≡ true → IsOn result
  pub steady : old.steady ≡ true → new.steady ≡ true
