-- What a session over a reader and a writer has read, answered and written, in any framing. (This project's choice.)
use Rattle.std.specs.Prelude.{◌≡◌, ◌⊎◌, ℕ, ◌+◌, ◌≤◌, Bool, true, false, if◌then◌else◌, List, [], ◌∷◌, ◌++◌, length, ⊤}
use Rattle.std.specs.List.{All, sum}
use Rattle.std.specs.Io.KnownBytes.{Appends}
use Rattle.oa_model.specs.promise.Limits.{max_read_calls, max_records}
use Rattle.oa_stream.specs.promise.Source.{Input, later}
use Rattle.oa_stream.specs.promise.Sink.{Output, Breaks, IsHandedOn}
use Rattle.oa_frame.specs.declared.ends.End.{End}
use Rattle.oa_frame.specs.declared.ends.End.TheVariants.{Closed, Cut, TooLong, BadHex, ReadFault, WriteFault}
use Rattle.oa_frame.specs.declared.session.Served.{Served}
use Rattle.oa_frame.specs.promise.Known.{Known}
use Rattle.oa_frame.specs.promise.Framings.{Frames, is_read_fault}
use Rattle.oa_frame.specs.promise.Paces.{HasCause}

-- a turn of a server: the state before, the body, the replies that it sends then (none, one or many), the state after
abbrev pub TurnOf : Type 0 → Type 1
TurnOf S = S → List ℕ → List (List ℕ) → S → Type 0

-- a flush of a server: the state before, the replies that were still held, the state after
abbrev pub EndOf : Type 0 → Type 1
EndOf S = S → List (List ℕ) → S → Type 0

-- What was read after the last body that was answered: nothing; what ended the input; or a body that comes alone,
-- which was read and not executed.
pub data Halt : Type 0 where
  Between : Halt
  At : End → Halt
  Undone : List ℕ → Halt

-- one body after another, with the replies that were sent at each
abbrev pub BodiesTurned : {S : Type 0} → TurnOf S → S → List (List ℕ) → List (List (List ℕ)) → S → Type 0
BodiesTurned turn old [] [] new = new ≡ old
BodiesTurned {S} turn old (body ∷ bodies) (replies ∷ handed) new = (mid : S) × turn old body replies mid
    × BodiesTurned turn mid bodies handed new
BodiesTurned turn old [] (replies ∷ handed) new = ⊥
BodiesTurned turn old (body ∷ bodies) [] new = ⊥

-- all replies that were sent, and the last ones of them
unfoldable pub concat_replies : List (List (List ℕ)) → List (List ℕ)
concat_replies [] = []
concat_replies (replies ∷ handed) = replies ++ concat_replies handed

unfoldable pub latest : List (List (List ℕ)) → List (List ℕ)
latest [] = []
latest (replies ∷ []) = replies
latest (replies ∷ (next ∷ handed)) = latest (next ∷ handed)

-- replies one after another
unfoldable pub spelled_all : (List ℕ → List ℕ) → List (List ℕ) → List ℕ
spelled_all spelled [] = []
spelled_all spelled (reply ∷ replies) = spelled reply ++ spelled_all spelled replies

-- all but the last
abbrev pub but_last : List (List ℕ) → List (List ℕ)
but_last [] = []
but_last (reply ∷ []) = []
but_last (reply ∷ (next ∷ replies)) = reply ∷ but_last (next ∷ replies)

-- Of all bytes that a writer received, `gone` have left it; `before` is how many it received before these bodies. At
-- each body that comes alone, everything had left that the writer received before that body's own reply, which is the
-- last of those that were sent then.
abbrev pub HasLeft : Frames → (List ℕ → Bool) → ℕ → ℕ → List (List ℕ) → List (List (List ℕ)) → Type 0
HasLeft f barrier gone before [] handed = Unit {0}
HasLeft f barrier gone before (body ∷ bodies) [] = Unit {0}
HasLeft f barrier gone before (body ∷ bodies) (replies ∷ handed) =
    (barrier body ≡ true → before + length (spelled_all f.spelled (but_last replies)) ≤ gone)
    × HasLeft f barrier gone (before + length (spelled_all f.spelled replies)) bodies handed

-- an end with a reply: a record that is cut or too long
abbrev pub is_answered : End → Bool
is_answered Closed = false
is_answered Cut = true
is_answered TooLong = true
is_answered (BadHex line) = false
is_answered ReadFault = false
is_answered WriteFault = false

-- the reply to an end
abbrev pub last_reply : List ℕ → End → List (List ℕ)
last_reply last why = if is_answered why then last ∷ [] else []

-- what the writer received after the reading had ended, or before a body that was not executed: nothing if it had
-- failed before
abbrev pub finals : List ℕ → Halt → List (List ℕ) → List (List ℕ)
finals last Between held = []
finals last (At why) held = held ++ last_reply last why
finals last (Undone body) held = held

-- the last replies that the writer received: those of the end, those before a body that was not executed, or those of
-- one body
abbrev pub given_last : List ℕ → Halt → List (List (List ℕ)) → List (List ℕ) → List (List ℕ)
given_last last Between handed held = latest handed
given_last last (At why) handed held = held ++ last_reply last why
given_last last (Undone body) handed held = held

-- the bytes begin with the records of these bodies, and the rest follows them
abbrev pub Bodies : Frames → List ℕ → List (List ℕ) → List ℕ → Type 0
Bodies f bytes [] rest = bytes ≡ rest
Bodies f bytes (body ∷ bodies) rest = (mid : List ℕ) × f.Next bytes body mid × Bodies f mid bodies rest

-- these bodies were read, and nothing more, or more up to what ended them, or to the end of one that was not executed
abbrev pub ReadTo : Frames → Halt → List (List ℕ) → List ℕ → List ℕ → Type 0
ReadTo f Between bodies bytes rest = Bodies f bytes bodies rest
ReadTo f (At why) bodies bytes rest = (mid : List ℕ) × Bodies f bytes bodies mid × f.Stop why mid rest
ReadTo f (Undone body) bodies bytes rest = (mid : List ℕ) × Bodies f bytes bodies mid × f.Next mid body rest

-- what may have ended the reading after this many bodies; only a body that comes alone may be read and not executed
abbrev pub CanStop : Frames → (List ℕ → Bool) → ℕ → Halt → Type 0
CanStop f barrier requests Between = ⊤
CanStop f barrier requests (At why) = f.Can (requests + 1) why
CanStop f barrier requests (Undone body) = barrier body ≡ true

-- the reading did not end with a fault of the reader, except that the records were used up
abbrev pub ReaderStands : ℕ → Halt → Type 0
ReaderStands requests Between = ⊤
ReaderStands requests (At why) = why ≡ ReadFault → requests ≡ max_records
ReaderStands requests (Undone body) = ⊤

-- How often the reader was called: for each body that was read at most as often as the limit, and `over` times after
-- the last of them.
pub record CallsReader (requests over : ℕ) (old new : Input) : Type 0 where
  pub each : List ℕ
  pub one_each : length each ≡ requests
  pub few : All (λ n. n ≤ max_read_calls) each
  pub clock : new.calls ≡ later (sum each + over) old.calls

-- a read fault has a cause, and a failure of the reader is reported: it failed, or was called as often as allowed, or
-- the records were used up
abbrev pub HasReaderCause : ℕ → Halt → ℕ → Bool → Type 0
HasReaderCause requests Between over faulted = faulted ≡ false
HasReaderCause requests (Undone body) over faulted = faulted ≡ false
HasReaderCause requests (At why) over faulted = HasCause (is_read_fault why) over faulted ⊎ (requests ≡ max_records)

-- all replies have left the writer
pub record AllHaveLeft (f : Frames) (last : List ℕ) (why : End) (stop : Halt)
    (handed : List (List (List ℕ))) (held : List (List ℕ)) (old new : Output) : Type 0 where
  pub ended : stop ≡ At why
  pub reached : Appends old.reached new.reached
      (old.kept ++ spelled_all f.spelled (concat_replies handed ++ (held ++ last_reply last why)))
  pub handed_on : IsHandedOn new
  pub sound : new.broken ≡ false

-- The writer failed: at most a prefix of these replies has left it, and it had not promised to accept all of them. At
-- most the bytes that it may keep back and the last replies that it received are lost: so no further body was
-- answered after it had failed. No reply is lost that was due before a body that comes alone and was answered: all of
-- them had left the writer first.
pub record WriterFails (f : Frames) (barrier : List ℕ → Bool) (last : List ℕ) (why : End) (stop : Halt)
    (bodies : List (List ℕ))
    (handed : List (List (List ℕ))) (held : List (List ℕ)) (old new : Output) : Type 0 where
  pub ended : why ≡ WriteFault
  pub torn : Breaks old new (spelled_all f.spelled (concat_replies handed ++ finals last stop held))
  pub few : length torn.lost ≤ old.back + length (spelled_all f.spelled (given_last last stop handed held))
  pub apart : HasLeft f barrier (length torn.gone) (length old.kept) bodies handed

-- A whole session: the bodies that were read and answered, their run with the replies that were sent at each, those
-- that were still held at the end, and what has left the writer. `stop` is what ended the reading. Between: the
-- writer failed between two bodies, and nothing after the last answered body was consumed. Undone: it failed in
-- replies that were held before a body that comes alone; that body was consumed, and nothing after it. `over` is how
-- often the reader was called after the last answered body.
pub record Session {S : Type 0} (f : Frames) (barrier : List ℕ → Bool) (turn : TurnOf S) (ends : EndOf S)
    (last : List ℕ)
    (input input' : Input) (out out' : Output) (old new : S) (served : Served) : Type 0 where
  pub bodies : List (List ℕ)
  pub handed : List (List (List ℕ))
  pub held : List (List ℕ)
  pub mid : S
  pub stop : Halt
  pub over : ℕ
  pub run : BodiesTurned turn old bodies handed mid
  pub ended : ends mid held new
  pub count : served.requests ≡ length bodies
  pub read : Known (ReadTo f stop bodies) input.left input'.left
  pub can : CanStop f barrier served.requests stop
  pub calls : CallsReader served.requests over input input'
  pub few : over ≤ max_read_calls
  pub cause : HasReaderCause served.requests stop over input'.faulted
  pub sound : input.steady ≡ true → ReaderStands served.requests stop
  pub written : AllHaveLeft f last served.why stop handed held out out'
      ⊎ WriterFails f barrier last served.why stop bodies handed held out out'
