-- Definitions for contracts and proofs, beside promise/Answering.
use Rattle.std.specs.Prelude.{ℕ, List, Result}
use Rattle.oa_stream.specs.promise.Sink.{Output}
use Rattle.oa_stream.specs.Sink.{Puts}
use Rattle.oa_stream.specs.declared.sink.Unwritten.{Unwritten}
use Rattle.oa_mux.specs.promise.Marks.{Tagged, Flush}
use Rattle.oa_mux.specs.promise.Outgoing.{spelled_frames}
use Rattle.oa_mux.specs.promise.Readers.{Brought}
use Rattle.oa_mux.specs.promise.Answering.{SharedTurn}

-- one turn was made, and what it sends was put, or the writer failed in it
pub record AnswersClient {S : Type 0} (turn : SharedTurn S) (result : Result (Unit {0}) Unwritten)
    (ask : Tagged Brought)
    (out out' : Output) (old new : S) : Type 0 where
  pub told : List (ℕ × List ℕ)
  pub turned : turn old ask told new
  pub put : Puts result out out' (spelled_frames told)

-- held requests are committed, and their replies are lost
pub record GivesUp {S : Type 0} (turn : SharedTurn S) (old new : S) : Type 0 where
  pub told : List (ℕ × List ℕ)
  pub turned : turn old Flush told new

-- a state in which nothing is held: the last turn was a *now*
abbrev pub IsBehindNow : {S : Type 0} → SharedTurn S → S → Type 0
IsBehindNow {S} turn state = (before : S) × (told : List (ℕ × List ℕ)) × turn before Flush told state
