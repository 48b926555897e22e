-- The part of a session that a crash keeps, and the bytes that the session has written until then.
use Rattle.std.specs.Prelude.{◌≡◌, ℕ, ◌+◌, ◌≤◌, nat_le, Bool, false, if◌then◌else◌, List, [], ◌∷◌, ◌++◌, length}
use Rattle.oa_disk.specs.declared.disk.Disk.{Ghosts}
use Rattle.oa_group_commit.specs.promise.Groups.{concat_groups, accepted, Trace, AnsweredCall, IsCalled, Exchange}
use Rattle.oa_group_commit.specs.promise.Groups.{StateMachine}
use Rattle.oa_server.specs.promise.Storages.{disk_of, InParts, Part, Parts, ServesSession}
use Rattle.oa_server.specs.declared.storage.Storage.{Storage}
use Rattle.oa_frame.specs.promise.Framings.{frames}
use Rattle.oa_stream.specs.promise.Memory.{gathered_output}
use Rattle.oa_stream.specs.promise.Source.{Input as Read, in_memory}
use Rattle.oa_stream.specs.declared.gathered.VecSink.{VecSink}
use Rattle.oa_record.specs.promise.Replies.{ReplyValue}
use Rattle.oa_server.specs.promise.ServerMachine.{last_written}
use Rattle.oa_decision.specs.promise.States.{State}
use Rattle.oa_history.specs.declared.session.StreamInput.{StreamInput}
use Rattle.oa_history.specs.declared.session.Written.{Written}

-- The results of a server's calls, and what a crash leaves of them, for any kind of requests.

-- ---- what was asked, and answered

-- A completed call, and the point in time of its disk's clock at which it ended.
pub record CompletedCall (R : Type 0) : Type 0 where
  pub call : AnsweredCall R
  pub moment : ℕ

-- A property of calls: the size of groups, the storage before and after the call, the state before, the bodies, the
-- replies, and the state after.
abbrev pub Serving : {D : Type 0} → Ghosts D → Type 0 → Type 0 → Type 1
Serving {D} g S R = ℕ → Storage D g → Storage D g → S → List (List ℕ) → List R → S → Type 0

-- Calls of a server, each made after the one before had ended: each with this property, and with the point in time at
-- which it ended.
abbrev pub CallSequence : {S R D : Type 0} {g : Ghosts D} → Serving g S R → Storage D g → S → List (CompletedCall R)
    → Storage D g → S
    → Type 0
CallSequence serving old first [] new last = (new ≡ old) × (last ≡ first)
CallSequence {S} {R} {D} {g} serving old first (one ∷ calls) new last =
    (mid : Storage D g) × (state : S) × serving one.call.size old mid first one.call.bodies one.call.replies state
    × (one.moment ≡ g.moment (disk_of mid)) × CallSequence serving mid state calls new last

-- ---- what it comes to

-- how many groups count of a call that ended at one point in time, if the session crashes at another
abbrev pub over_by : ℕ → ℕ → ℕ → ℕ
over_by stop moment answered = if nat_le moment stop then answered else 0

-- The replies of each call are those of a run from the state in which the one before ended, group for group, up to a
-- fault of the device. This many groups were answered by calls that had ended by the crash.
abbrev pub RunsUpToFault : {S R : Type 0} → StateMachine S R → ℕ → Bool → S → List (CompletedCall R) → List
    (List (Exchange R)) → ℕ → Bool → S
    → Type 0
RunsUpToFault t stop was first [] groups count is last = (groups ≡ []) × (count ≡ 0) × (is ≡ was) × (first ≡ last)
RunsUpToFault {S} {R} t stop was first (one ∷ calls) groups count is last =
    (mid : S) × (fails : Bool) × (own : List (List (Exchange R))) × (later : List (List (Exchange R)))
    × (here : ℕ) × (after : ℕ) × IsCalled t was first one.call own here fails mid × (groups ≡ own ++ later)
    × (count ≡ over_by stop one.moment here + after) × RunsUpToFault t stop fails mid calls later after is last

-- Calls from a state, and the state that a crash has left.
pub record KeepsDurablePrefix {S R : Type 0} (t : StateMachine S R) (stop : ℕ) (calls : List (CompletedCall R))
    (before after : S) : Type 0 where
  -- the groups of all calls: those that were answered, and the one in which the device failed, if it did
  pub groups : List (List (Exchange R))
  -- how many were answered by calls that had ended by the crash
  pub count : ℕ
  pub fault : Bool
  pub last : S
  pub plays : RunsUpToFault t stop false before calls groups count fault last
  -- a prefix of the groups is kept, each whole, and it contains all of those
  pub done : List (List (Exchange R))
  pub later : List (List (Exchange R))
  pub parts : groups ≡ done ++ later
  pub enough : count ≤ length done
  -- the state after is that of a run of these, opened again, and of a run of only their requests that were done
  pub state : S
  pub run : Trace t before (concat_groups done) state
  pub barrier : Trace t before (accepted t (concat_groups done)) state
  pub left : after ≡ t.opened state

-- A session over a stream in memory, and its parts.

-- The parts of a session over a stream as calls: each ends at the point in time at which its replies are sent.
abbrev pub stream_parts : {D : Type 0} {g : Ghosts D} (size : ℕ) (old new : Storage D g) (before after : State)
    (parts : List Part)
    → Parts size old new before parts after → List (CompletedCall ReplyValue)
stream_parts size old new before after [] is = []
stream_parts {D} {g} size old new before after (part ∷ parts) is =
    record {
      call = record { size = size; bodies = part.bodies; replies = part.told };
      moment = g.moment (disk_of is.0);
    }
    ∷ stream_parts size is.0 new is.1 after parts is.3

-- So are the requests that the open group held at the end, after them.
abbrev pub calls_in : {D : Type 0} {g : Ghosts D} {size : ℕ} {old new : Storage D g} {before after : State}
    {bodies : List (List ℕ)}
    {handed : List (List (List ℕ))} {held : List (List ℕ)} → InParts size old new before after bodies handed held
    → List (CompletedCall ReplyValue)
calls_in {D} {g} {size} {old} {new} {before} {after} {bodies} {handed} {held} is =
    stream_parts size old is.mid before is.state is.parts is.served
    ++ record {
      call = record { size = size; bodies = is.open_bodies; replies = is.told };
      moment = g.moment (disk_of new);
    } ∷ []

-- A server received this input, and an empty writer. What was read, answered and written is as `serve_hex` and
-- `serve` state: the replies to the bodies of the input, in order, those of each part after its last call of the
-- disk. These are the parts.
pub record HasWritten {D : Type 0} {g : Ghosts D} (input : StreamInput) (written : Written) (old : Storage D g)
    (before : State)
    (done : List (CompletedCall ReplyValue)) (new : Storage D g) (after : State) : Type 0 where
  pub empty : VecSink
  pub nothing : empty.bytes.items ≡ []
  pub unread : Read
  pub talked : ServesSession (frames input.framing) last_written (in_memory input.bytes.items) unread
      (gathered_output empty) (gathered_output written.output) input.group
      old new before after written.served
  pub are : done ≡ calls_in talked.in_parts
