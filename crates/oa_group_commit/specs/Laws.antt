-- Theorems about groups and sessions, for any kind of requests, replies and states. (This project's choice.)
use Rattle.std.specs.Prelude.{◌≡◌, ◌+◌, ◌≤◌, ℕ, false, true, List, [], ◌∷◌, ◌++◌, length, map}
use Rattle.oa_disk.specs.promise.Disk.{CrashInvariant}
use Rattle.oa_disk.specs.declared.disk.Disk.{Ghosts}
use Rattle.oa_store.specs.declared.store.Store.{Store}
use Rattle.oa_group_commit.specs.promise.Groups.{GroupState, IsAdmitted, IsEnded, MayBeLeft, accepted, AllHoldState}
use Rattle.oa_group_commit.specs.promise.Groups.{HoldsPrefix, HoldsState, Trace, IsServed, AnsweredCall, IsSessionOn}
use Rattle.oa_group_commit.specs.promise.Groups.{OpenSession, Exchange, StateMachine}
use Rattle.oa_group_commit.specs.Invariants.{GroupInvariant}
use Rattle.oa_group_commit.specs.History.{IsAfterSession, IsAfterSessions, IsStopped, StoppedSession, Sessions}
use Rattle.oa_group_commit.specs.Sessions.{answered_by}

-- ---- requests that are taken one by one

-- At the start, with no open group, nothing was admitted.
abbrev pub StartIsUnderway : {S R D : Type 0} → StateMachine S R → Ghosts D → Type 0
StartIsUnderway {S} {R} {D} t g =
    (size : ℕ) (start : GroupState S R D g) → start.store.stopped ≡ false → start.pending ≡ [] → start.events ≡ []
    → GroupInvariant t size start start [] []

-- One more request is admitted.
abbrev pub TakenIsUnderway : {S R D : Type 0} → StateMachine S R → Ghosts D → Type 0
TakenIsUnderway {S} {R} {D} t g =
    (size : ℕ) (start old new : GroupState S R D g) (bodies : List (List ℕ)) (out : List R) (body : List ℕ)
    (told : List R)
    → GroupInvariant t size start old bodies out → IsAdmitted t size body told old new
    → GroupInvariant t size start new (bodies ++ body ∷ []) (out ++ told)

-- At the end of the input they are a call that was served.
abbrev pub EndIsServed : {S R D : Type 0} → StateMachine S R → Ghosts D → Type 0
EndIsServed {S} {R} {D} t g =
    (size : ℕ) (start old new : GroupState S R D g) (bodies : List (List ℕ)) (out told : List R)
    → GroupInvariant t size start old bodies out → IsEnded t told old new
    → IsServed t size start.store new.store start.state new.state bodies (out ++ told)

-- Refused requests leave no trace: the others alone are a run with the same replies and events.
abbrev pub OthersAreRun : {S R : Type 0} → StateMachine S R → Type 0
OthersAreRun {S} {R} t = (old : S) (entries : List (Exchange R)) (new : S) → Trace t old entries new
    → Trace t old (accepted t entries) new

-- ---- a session: an opening and calls, one after another

-- at each point in time since the start, each image is a store of the state
abbrev pub LeavesStateSince : {S R D : Type 0} {g : Ghosts D} → StateMachine S R → D → Store D g → S → Type 0
LeavesStateSince {S} {R} {D} {g} t start now first =
    CrashInvariant g.moment g.image_since start now.disk (HoldsState t first)

-- An opening begins a session with the state that the images are a store of.
abbrev pub OpeningBegins : {S R D : Type 0} → StateMachine S R → Ghosts D → Type 0
OpeningBegins {S} {R} {D} t g =
    (start : D) (now : Store D g) (first : S) → LeavesStateSince t start now first → AllHoldState t now first
    → OpenSession t start now first first []

-- the call is served
abbrev pub IsServedCall : {S R D : Type 0} {g : Ghosts D} → StateMachine S R → AnsweredCall R → Store D g → Store D g
    → S → S
    → Type 0
IsServedCall t call old new before after = IsServed t call.size old new before after call.bodies call.replies

-- A call that is served belongs to the session: from its start on, everything that was answered before it counts. The
-- device may fail in it.
abbrev pub CallCounts : {S R D : Type 0} → StateMachine S R → Ghosts D → Type 0
CallCounts {S} {R} {D} t g =
    (start : D) (mid new : Store D g) (first last after : S) (calls : List (AnsweredCall R)) (call : AnsweredCall R)
    → (was : OpenSession t start mid first last calls) → IsServedCall t call mid new last after
    → (session : IsSessionOn t g start new.disk first (calls ++ call ∷ []) after) × (session.stopped ≡ new.stopped)
    × ((m : ℕ) → g.moment mid.disk ≤ m → was.session.count ≤ answered_by m session.moments)

-- If the device does not fail, another call may follow.
abbrev pub CallGoesOn : {S R D : Type 0} → StateMachine S R → Ghosts D → Type 0
CallGoesOn {S} {R} {D} t g =
    (start : D) (mid new : Store D g) (first last after : S) (calls : List (AnsweredCall R)) (call : AnsweredCall R)
    → OpenSession t start mid first last calls → IsServedCall t call mid new last after → new.stopped ≡ false
    → OpenSession t start new first after (calls ++ call ∷ [])

-- After a fault of the device, a call does nothing and answers all its bodies with the fault. It belongs to the
-- session, which does not change.
abbrev pub LateCallCounts : {S R D : Type 0} → StateMachine S R → Ghosts D → Type 0
LateCallCounts {S} {R} {D} t g =
    (start now : D) (first last : S) (calls : List (AnsweredCall R)) (call : AnsweredCall R)
    → (was : IsSessionOn t g start now first calls last)
    → was.stopped ≡ true → call.replies ≡ map t.failed call.bodies
    → (session : IsSessionOn t g start now first (calls ++ call ∷ []) last) × (session.stopped ≡ true)
    × (session.groups ≡ was.groups) × (session.count ≡ was.count) × (session.moments ≡ was.moments)

-- The device fails in at most one group of a session: all others were answered.
abbrev pub OneFault : {S R D : Type 0} → StateMachine S R → Ghosts D → Type 0
OneFault {S} {R} {D} t g =
    (start now : D) (first last : S) (calls : List (AnsweredCall R))
    → (session : IsSessionOn t g start now first calls last)
    → (session.stopped ≡ false → length session.groups ≡ session.count)
    × (session.stopped ≡ true → length session.groups ≡ session.count + 1)

-- ---- a stop

-- A crash at any point in time of a session leaves a store of the state after all groups that were answered by then,
-- or more.
abbrev pub CrashKeepsAcknowledged : {S R D : Type 0} → StateMachine S R → Ghosts D → Type 0
CrashKeepsAcknowledged {S} {R} {D} t g =
    (old new : D) (first : S) (calls : List (AnsweredCall R)) (last : S)
    (session : IsSessionOn t g old new first calls last) (m : ℕ) (c : List ℕ) → g.moment old ≤ m → MayBeLeft g new m c
    → HoldsPrefix t (answered_by m session.moments) first session.groups c

-- At its end all answered groups count.
abbrev pub EndCountsAll : {S R D : Type 0} → StateMachine S R → Ghosts D → Type 0
EndCountsAll {S} {R} {D} t g =
    (old new : D) (first : S) (calls : List (AnsweredCall R)) (last : S)
    (session : IsSessionOn t g old new first calls last) (m : ℕ) → g.moment new ≤ m
    → answered_by m session.moments ≡ session.count

-- So the session is a step of a crash history, with the groups that were answered by the crash.
abbrev pub StopIsLink : {S R D : Type 0} → StateMachine S R → Ghosts D → Type 0
StopIsLink {S} {R} {D} t g =
    (old new : D) (first : S) (calls : List (AnsweredCall R)) (last : S)
    (session : IsSessionOn t g old new first calls last) (m : ℕ) (c : List ℕ) → g.moment old ≤ m → MayBeLeft g new m c
    → (link : StoppedSession R) × (link.calls ≡ calls) × (link.groups ≡ session.groups)
    × (link.count ≡ answered_by m session.moments)
    × IsStopped t g first link (g.contents old) c × IsAfterSession t first link c

-- However many sessions there were, and wherever they crashed, everything that was answered is kept.
abbrev pub HistoryKeepsAcknowledged : {S R D : Type 0} → StateMachine S R → Ghosts D → Type 0
HistoryKeepsAcknowledged {S} {R} t g =
    (state : S) (old : List ℕ) (sessions : List (StoppedSession R)) (new : List ℕ)
    → Sessions t g state old sessions new → HoldsState t state old → IsAfterSessions t state sessions new
