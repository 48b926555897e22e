-- Definitions for contracts and proofs, beside promise/Talking.
use Rattle.std.specs.Prelude.{◌≡◌, ◌⊎◌, ℕ, ◌+◌, ◌<◌, ◌≤◌, Bool, true, false, List, [], ◌∷◌, ◌++◌, length, Result, Ok}
use Rattle.std.specs.Prelude.{Err}
use Rattle.std.specs.Io.KnownBytes.{Consumes}
use Rattle.oa_stream.specs.promise.Source.{Input, later}
use Rattle.oa_stream.specs.promise.Sink.{Output, IsHandedOn}
use Rattle.oa_stream.specs.declared.sink.Unwritten.{Unwritten}
use Rattle.oa_mux.specs.promise.Answering.{SharedTurn}
use Rattle.oa_mux.specs.promise.Marks.{Flush, Tagged}
use Rattle.oa_mux.specs.promise.Readers.{Brought, ClientState}
use Rattle.oa_mux.specs.promise.Shared.{Demultiplexes, SharedState, StopsAtUnknown}
use Rattle.oa_frame.specs.declared.session.Loss.{Loss}
use Rattle.oa_frame.specs.declared.session.Loss.TheVariants as loss
use Rattle.oa_mux.specs.declared.serving.Progress.{Progress}
use Rattle.oa_mux.specs.declared.serving.Progress.TheVariants as progress
use Rattle.oa_mux.specs.declared.session_end.SessionEnd.{SessionEnd}
use Rattle.oa_mux.specs.declared.session_end.SessionEnd.TheVariants as over
use Rattle.oa_mux.specs.promise.Talking.{parted, ends_in, HasTold, LosesWriter, IsEndOf, ends_at, ServesClients}

-- a part of it, after which it continues
pub record TalksOn {S : Type 0} (barrier : List ℕ → Bool) (turn : SharedTurn S) (from to : SharedState)
    (input input' : Input)
    (out out' : Output) (old new : S) : Type 0 where
  pub taken : List ℕ
  pub asked : List (Tagged Brought)
  pub calls : ℕ
  pub read : Consumes input.left input'.left taken
  pub apart : Demultiplexes from taken asked to
  pub stops : StopsAtUnknown from.place taken
  pub clock : input'.calls ≡ later calls input.calls
  pub steady : input.steady ≡ true → input'.steady ≡ true
  pub told : HasTold turn (parted barrier asked) out out' old new

-- 1 if something is read ahead, as after the call that read it
abbrev pub one_ahead : List ℕ → ℕ
one_ahead [] = 0
one_ahead (x ∷ xs) = 1

-- A part that consumed bytes, or called the reader. The bytes that were read ahead before and after it are given,
-- too: a steady reader is called only if nothing is read ahead, and something is after the call.
pub record MovesOn {S : Type 0} (barrier : List ℕ → Bool) (turn : SharedTurn S) (from to : SharedState)
    (front front' : List ℕ) (input input' : Input)
    (out out' : Output) (old new : S) : Type 0 where
  pub talks : TalksOn barrier turn from to input input' out out' old new
  pub some : 0 < talks.calls + length talks.taken
  pub paced : input.steady ≡ true → talks.calls + one_ahead front ≤ length talks.taken + one_ahead front'
  pub well : input'.faulted ≡ false
  pub quiet : 0 < talks.calls → IsHandedOn out'

-- the last part
pub record IsLastPart {S : Type 0} (barrier : List ℕ → Bool) (turn : SharedTurn S) (why : SessionEnd)
    (from to : SharedState)
    (front : List ℕ)
    (input input' : Input) (out out' : Output) (old new : S) : Type 0 where
  pub talks : TalksOn barrier turn from to input input' out out' old new
  pub ended : IsEndOf why to.place 0 input'
  pub sound : input.steady ≡ true → input'.faulted ≡ false
  pub paced : input.steady ≡ true → talks.calls + one_ahead front ≤ length talks.taken + 1

-- the last part, in which the writer failed
pub record IsUnwritten {S : Type 0} (barrier : List ℕ → Bool) (turn : SharedTurn S) (from : SharedState)
    (input input' : Input) (out out' : Output)
    (old new : S) : Type 0 where
  pub serves : ServesClients barrier turn from input input' out out' old new over.WriteFault
  pub uncalled : serves.calls ≡ 0

abbrev pub Progresses : {S : Type 0} → (List ℕ → Bool) → SharedTurn S → Progress → SharedState → SharedState → List ℕ
    → List ℕ → Input → Input → Output → Output → S → S → Type 0
Progresses barrier turn progress.Goes from to front front' input input' out out' old new =
    MovesOn barrier turn from to front front' input input' out out' old new
Progresses barrier turn (progress.Over why) from to front front' input input' out out' old new =
    IsLastPart barrier turn why from to front input input' out out' old new
Progresses barrier turn progress.Unwritten from to front front' input input' out out' old new =
    IsUnwritten barrier turn from input input' out out' old new

-- the request is answered; or the writer failed in it, or in the *now* before it
abbrev pub AnswersAsked : {S : Type 0} → SharedTurn S → Result (Unit {0}) Loss → List (Tagged Brought) → Output → Output
    → S → S → Type 0
AnswersAsked turn (Ok u) asks out out' old new = HasTold turn asks out out' old new
AnswersAsked turn (Err loss.Answered) asks out out' old new = LosesWriter turn asks [] out out' old new
AnswersAsked turn (Err loss.Undone) asks out out' old new = LosesWriter turn [] [] out out' old new

-- a request without a *now* before it is answered
abbrev pub AnswersSingle : {S : Type 0} → SharedTurn S → Result (Unit {0}) Unwritten → Tagged Brought → Output → Output
    → S → S → Type 0
AnswersSingle turn (Ok u) ask out out' old new = HasTold turn (ask ∷ []) out out' old new
AnswersSingle turn (Err e) ask out out' old new = LosesWriter turn (ask ∷ []) [] out out' old new

-- a *now* was made and the writer flushed, or it failed
abbrev pub MakesNow : {S : Type 0} → SharedTurn S → Result (Unit {0}) Unwritten → Output → Output → S → S → Type 0
MakesNow turn (Ok u) out out' old new = HasTold turn (Flush ∷ []) out out' old new × IsHandedOn out'
MakesNow turn (Err e) out out' old new = LosesWriter turn [] [] out out' old new

-- a prefix of these ends, in which the writer failed
pub record LosesInEnds {S : Type 0} (turn : SharedTurn S) (all : List (Tagged Brought)) (out out' : Output)
    (old new : S) : Type 0 where
  pub ends : List (Tagged Brought)
  pub others : List (Tagged Brought)
  pub are : ends ++ others ≡ all
  pub loses : LosesWriter turn [] ends out out' old new

-- these ends are answered, or the writer failed in them
abbrev pub AnswersEnds : {S : Type 0} → SharedTurn S → Result (Unit {0}) Unwritten → List (Tagged Brought)
    → List (Tagged Brought) → Output → Output → S → S → Type 0
AnswersEnds turn (Ok u) ends all out out' old new = HasTold turn ends out out' old new
AnswersEnds turn (Err e) ends all out out' old new = LosesInEnds turn all out out' old new

-- the end of the first client
pub record EndsNext {S : Type 0} (turn : SharedTurn S) (result : Result (Unit {0}) Unwritten)
    (clients clients' : List (ℕ × ClientState))
    (out out' : Output) (old new : S) : Type 0 where
  pub ends : List (Tagged Brought)
  pub are : ends_in clients ≡ ends ++ ends_in clients'
  pub one : length clients ≡ length clients' + 1
  pub answers : AnswersEnds turn result ends ends out out' old new

-- the session is closed
abbrev pub ClosesAll : {S : Type 0} → SharedTurn S → SessionEnd → SessionEnd → List (ℕ × ClientState) → Output → Output
    → S → S → Type 0
ClosesAll turn result why clients out out' old new =
    ((result ≡ why) × HasTold turn (ends_at why clients ++ Flush ∷ []) out out' old new × IsHandedOn out')
    ⊎ ((result ≡ over.WriteFault) × LosesInEnds turn (ends_in clients) out out' old new)
