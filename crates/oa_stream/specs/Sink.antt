-- Definitions for contracts and proofs, beside promise/Sink.
use Rattle.std.specs.Prelude.{ℕ, List, [], Result, Ok, Err}
use Rattle.oa_stream.specs.declared.sink.Unwritten.{Unwritten}
use Rattle.oa_stream.specs.promise.Sink.{Output, IsHandedOn, Writes, Breaks}

abbrev pub Puts : Result (Unit {0}) Unwritten → Output → Output → List ℕ → Type 0
Puts (Ok u) old new bytes = Writes old new bytes
Puts (Err e) old new bytes = Breaks old new bytes

-- everything that was kept back has left, or the writer failed
abbrev pub Delivers : Result (Unit {0}) Unwritten → Output → Output → Type 0
Delivers (Ok u) old new = Writes old new [] × IsHandedOn new
Delivers (Err e) old new = Breaks old new []
