-- A buffer between a reader and its caller. (This project's choice.)
use Rattle.std.specs.Prelude.{◌≡◌, ℕ, ◌<◌, Bool, true, false, List, [], length, slice_range, take, Option, ⊤}
use Rattle.std.specs.Io.KnownBytes.{Consumes, Keeps, IsAtEnd, prepend_known}
use Rattle.oa_stream.specs.declared.ahead.BufferedSource.{BufferedSource}
use Rattle.oa_stream.specs.declared.ahead.More.{More}
use Rattle.oa_stream.specs.declared.ahead.More.TheVariants as more
use Rattle.oa_stream.specs.promise.Source.{Input, later}

-- the bytes that were read ahead
abbrev pub read_ahead : {R : Type 0} → BufferedSource R → List ℕ
read_ahead a = slice_range a.front.bytes.items a.front.from a.front.to

-- the bytes consumed since the last call of the reader
abbrev pub passed : {R : Type 0} → BufferedSource R → List ℕ
passed a = take a.front.from a.front.bytes.items

-- a reader with these bytes before all others
abbrev pub with_front : List ℕ → Input → Input
with_front front i =
    record { left = prepend_known front i.left; calls = i.calls; faulted = i.faulted; steady = i.steady }

abbrev pub ahead : {R : Type 0} → (R → Input) → BufferedSource R → Input
ahead input a = with_front (read_ahead a) (input a.reader)

-- these bytes were consumed, and the reader was not called
pub record TakesAhead (bytes : List ℕ) (old new : Input) : Type 0 where
  pub taken : Consumes old.left new.left bytes
  pub clock : new.calls ≡ old.calls
  pub fault : new.faulted ≡ old.faulted
  pub steady : new.steady ≡ old.steady

-- the bytes in the buffer after a wait
abbrev pub Brings : More → Option (List ℕ) → List ℕ → Type 0
Brings more.Some left front = 0 < length front
Brings more.End left front = (front ≡ []) × IsAtEnd left
Brings more.Again left front = front ≡ []
Brings more.Fault left front = front ≡ []

abbrev pub is_broken : More → Bool
is_broken more.Some = false
is_broken more.End = false
is_broken more.Again = false
is_broken more.Fault = true

-- neither a failure nor an interruption
abbrev pub IsSure : More → Type 0
IsSure more.Some = ⊤
IsSure more.End = ⊤
IsSure more.Again = ⊥
IsSure more.Fault = ⊥

-- one call of the reader, which consumes nothing
pub record Waits (result : More) (old new : Input) (front : List ℕ) : Type 0 where
  pub kept : Keeps old.left new.left
  pub brings : Brings result new.left front
  pub clock : new.calls ≡ later 1 old.calls
  pub fault : new.faulted ≡ is_broken result
  pub on : old.steady ≡ true → IsSure result
  pub steady : old.steady ≡ true → new.steady ≡ true
