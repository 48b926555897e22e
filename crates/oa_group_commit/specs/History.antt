-- Definitions for contracts and proofs, beside promise/Groups.
use Rattle.std.specs.Prelude.{◌≡◌, ◌≤◌, ℕ, List, [], ◌∷◌, ◌++◌, length}
use Rattle.oa_disk.specs.declared.disk.Disk.{Ghosts}
use Rattle.oa_group_commit.specs.promise.Groups.{concat_groups, HoldsState, Trace, HoldsPrefix, AnsweredCall}
use Rattle.oa_group_commit.specs.promise.Groups.{IsSessionOn, Exchange, StateMachine, MayBeLeft, accepted}
use Rattle.oa_group_commit.specs.Sessions.{answered_by}

-- one session: its calls with their replies, the groups of its requests, and how many of the groups were answered by
-- the crash
pub record StoppedSession (R : Type 0) : Type 0 where
  pub calls : List (AnsweredCall R)
  pub groups : List (List (Exchange R))
  pub count : ℕ

-- A prefix of its groups is kept, each whole, and the prefix contains all answered ones.
pub record KeepsAcknowledged {R : Type 0} (session : StoppedSession R) (kept : List (Exchange R)) : Type 0 where
  pub done : List (List (Exchange R))
  pub later : List (List (Exchange R))
  pub groups_are : session.groups ≡ done ++ later
  pub kept_are : kept ≡ concat_groups done
  pub enough : session.count ≤ length done

-- A session began on a disk with these contents, and crashed at a point in time. The image is one that a crash then
-- may leave, and the groups that were answered by then are counted.
pub record IsStopped {S R D : Type 0} (t : StateMachine S R) (g : Ghosts D) (first : S) (session : StoppedSession R)
    (found left : List ℕ) : Type 0 where
  pub start : D
  pub now : D
  pub begins : g.contents start ≡ found
  pub last : S
  pub work : IsSessionOn t g start now first session.calls last
  pub groups_are : session.groups ≡ work.groups
  pub stop : ℕ
  pub began : g.moment start ≤ stop
  pub count_is : session.count ≡ answered_by stop work.moments
  pub may_be_left : MayBeLeft g now stop left

-- the image is a store of the state after all answered groups of the session, or more
abbrev pub IsAfterSession : {S R : Type 0} → StateMachine S R → S → StoppedSession R → List ℕ → Type 0
IsAfterSession t first session image = HoldsPrefix t session.count first session.groups image

-- One session after the other, each opened on what the crash of the one before left, in the state that this is a
-- store of: the state after some number of the crashed session's groups, at least the answered ones, whichever the
-- image is found to be.
abbrev pub Sessions : {S R D : Type 0} → StateMachine S R → Ghosts D → S → List ℕ → List (StoppedSession R) → List ℕ
    → Type 0
Sessions t g state old [] new = old ≡ new
Sessions t g state old (session ∷ sessions) new =
    (mid : List ℕ) × IsStopped t g (t.opened state) session old mid
    × ((after : IsAfterSession t (t.opened state) session mid) → Sessions t g after.state mid sessions new)

-- what is kept of each session
abbrev pub KeepsEach : {R : Type 0} → List (StoppedSession R) → List (List (Exchange R)) → Type 0
KeepsEach [] [] = Unit {0}
KeepsEach (session ∷ sessions) (kept ∷ others) = KeepsAcknowledged session kept × KeepsEach sessions others
KeepsEach [] (kept ∷ others) = ⊥
KeepsEach (session ∷ sessions) [] = ⊥

-- a run for each session, from the state in which the one before ended, opened again
abbrev pub RunEach : {S R : Type 0} → StateMachine S R → S → List (List (Exchange R)) → S → Type 0
RunEach t old [] new = old ≡ new
RunEach {S} t old (kept ∷ others) new = (mid : S) × Trace t (t.opened old) kept mid × RunEach t mid others new

-- of each session
abbrev pub accepted_each : {S R : Type 0} → StateMachine S R → List (List (Exchange R)) → List (List (Exchange R))
accepted_each t [] = []
accepted_each t (kept ∷ others) = accepted t kept ∷ accepted_each t others

-- The result of a history of sessions: the last image is a store of the state after runs of the requests that were
-- kept, a run for each session; refused requests may be left out.
abbrev pub IsAfterSessions : {S R : Type 0} → StateMachine S R → S → List (StoppedSession R) → List ℕ → Type 0
IsAfterSessions {S} {R} t state sessions image =
    (kept : List (List (Exchange R))) × (last : S) × KeepsEach sessions kept × RunEach t state kept last
    × RunEach t state (accepted_each t kept) last × HoldsState t last image
