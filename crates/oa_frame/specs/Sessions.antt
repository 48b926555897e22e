-- Definitions for contracts and proofs, beside promise/Sessions.
use Rattle.std.specs.Prelude.{◌≡◌, ◌⊎◌, ℕ, ◌≤◌, Bool, true, false, List, ◌++◌, length, Result, Ok, Err}
use Rattle.oa_stream.specs.promise.Sink.{Output, Writes, Breaks, IsHandedOn}
use Rattle.oa_stream.specs.Sink.{Puts}
use Rattle.oa_stream.specs.declared.sink.Unwritten.{Unwritten}
use Rattle.oa_frame.specs.declared.ends.End.{End}
use Rattle.oa_frame.specs.declared.ends.End.TheVariants.{WriteFault}
use Rattle.oa_frame.specs.declared.session.Loss.{Loss}
use Rattle.oa_frame.specs.declared.session.Loss.TheVariants as loss
use Rattle.oa_frame.specs.promise.Framings.{Frames}
use Rattle.oa_frame.specs.promise.Sessions.{TurnOf, EndOf, spelled_all, last_reply}

-- A body that comes alone: first held replies are sent, as at the end of the input, and then the body is answered.
pub record AnswersBarrier {S : Type 0} (turn : TurnOf S) (ends : EndOf S) (old : S) (body : List ℕ)
    (replies : List (List ℕ))
    (new : S) : Type 0 where
  pub held : List (List ℕ)
  pub own : List (List ℕ)
  pub between : S
  pub ended : ends old held between
  pub turned : turn between body own new
  pub are : replies ≡ held ++ own

abbrev pub step_by : {S : Type 0} → Bool → TurnOf S → EndOf S → TurnOf S
step_by true turn ends old body replies new = AnswersBarrier turn ends old body replies new
step_by false turn ends old body replies new = turn old body replies new

-- the turn of a body, whether it comes alone or not
abbrev pub step : {S : Type 0} → (List ℕ → Bool) → TurnOf S → EndOf S → TurnOf S
step barrier turn ends old body replies new = step_by (barrier body) turn ends old body replies new

-- a body was answered: the replies that are sent were put, or the writer failed in them
pub record AnswersBody {S : Type 0} (f : Frames) (turn : TurnOf S) (result : Result (Unit {0}) Unwritten)
    (body : List ℕ)
    (out out' : Output) (old new : S) : Type 0 where
  pub replies : List (List ℕ)
  pub turned : turn old body replies new
  pub put : Puts result out out' (spelled_all f.spelled replies)

-- a body that comes alone was answered, with at most its own reply
pub record AnswersOwn {S : Type 0} (f : Frames) (turn : TurnOf S) (result : Result (Unit {0}) Unwritten)
    (body : List ℕ)
    (out out' : Output) (old new : S) : Type 0 where
  pub answers : AnswersBody f turn result body out out' old new
  pub one : length answers.replies ≤ 1

-- the replies that were still held were put, or the writer failed in them
pub record FlushesHeld {S : Type 0} (f : Frames) (ends : EndOf S) (result : Result (Unit {0}) Unwritten)
    (out out' : Output) (old new : S) : Type 0 where
  pub held : List (List ℕ)
  pub ended : ends old held new
  pub put : Puts result out out' (spelled_all f.spelled held)

-- a flush of a server whose replies are lost
pub record DropsHeld {S : Type 0} (ends : EndOf S) (old new : S) : Type 0 where
  pub held : List (List ℕ)
  pub ended : ends old held new

-- these bytes were put and the writer was flushed, or it failed
abbrev pub PutsOn : Result (Unit {0}) Unwritten → Output → Output → List ℕ → Type 0
PutsOn (Ok u) out out' bytes = Writes out out' bytes × IsHandedOn out'
PutsOn (Err e) out out' bytes = Breaks out out' bytes

-- a state in which all held replies have been sent
abbrev pub HasEnded : {S : Type 0} → EndOf S → S → Type 0
HasEnded {S} ends state = (before : S) × (held : List (List ℕ)) × ends before held state

-- before a body that comes alone: held replies have left, or the writer failed in them
pub record IsParted {S : Type 0} (f : Frames) (ends : EndOf S) (result : Result (Unit {0}) Unwritten)
    (out out' : Output) (old new : S) : Type 0 where
  pub held : List (List ℕ)
  pub ended : ends old held new
  pub put : PutsOn result out out' (spelled_all f.spelled held)

-- held replies have left, and after that such a body was answered
pub record AnswersApart {S : Type 0} (f : Frames) (turn : TurnOf S) (ends : EndOf S)
    (result : Result (Unit {0}) Unwritten) (body : List ℕ)
    (out out' : Output) (old new : S) : Type 0 where
  pub mid : S
  pub between : Output
  pub parted : IsParted f ends (Ok tt) out between old mid
  pub own : AnswersOwn f turn result body between out' mid new

abbrev pub AnswersBy : {S : Type 0} → Bool → Frames → TurnOf S → EndOf S → Result (Unit {0}) Unwritten → List ℕ
    → Output → Output → S → S → Type 0
AnswersBy true f turn ends result body out out' old new = AnswersApart f turn ends result body out out' old new
AnswersBy false f turn ends result body out out' old new = AnswersBody f turn result body out out' old new

-- a body was answered, whether it comes alone or not; or the writer failed in that, or before one that comes alone
abbrev pub AnswersNext : {S : Type 0} → Frames → (List ℕ → Bool) → TurnOf S → EndOf S → Result (Unit {0}) Loss → List ℕ
    → Output → Output → S → S → Type 0
AnswersNext f barrier turn ends (Ok u) body out out' old new =
    AnswersBy (barrier body) f turn ends (Ok u) body out out' old new
AnswersNext f barrier turn ends (Err loss.Answered) body out out' old new =
    (e : Unwritten) × AnswersBy (barrier body) f turn ends (Err e) body out out' old new
AnswersNext f barrier turn ends (Err loss.Undone) body out out' old new =
    (barrier body ≡ true) × ((e : Unwritten) × IsParted f ends (Err e) out out' old new)

-- these replies were written and flushed, or the writer failed
abbrev pub HandsOn : (List ℕ → List ℕ) → End → End → List (List ℕ) → Output → Output → Type 0
HandsOn spelled result why replies old new =
    ((result ≡ why) × Writes old new (spelled_all spelled replies) × IsHandedOn new)
    ⊎ ((result ≡ WriteFault) × Breaks old new (spelled_all spelled replies))

-- held replies and the last reply were written and flushed, or the writer failed
pub record Closes {S : Type 0} (f : Frames) (ends : EndOf S) (last : List ℕ) (result why : End)
    (out out' : Output) (old new : S) : Type 0 where
  pub held : List (List ℕ)
  pub ended : ends old held new
  pub closed : HandsOn f.spelled result why (held ++ last_reply last why) out out'
