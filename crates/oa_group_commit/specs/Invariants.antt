-- Invariants while requests are admitted. (This project's choice.)
use Rattle.std.specs.Prelude.{◌≡◌, ◌⊎◌, ℕ, Bool, true, false, List, [], ◌∷◌, ◌++◌, length, map}
use Rattle.oa_disk.specs.declared.disk.Disk.{Ghosts}
use Rattle.oa_group_commit.specs.promise.Groups.{CallsForRequests, GroupState, IsWholeBefore, concat_groups, cut}
use Rattle.oa_group_commit.specs.promise.Groups.{events_in, groups_of, AllHoldState, CallsFor, HasMoments, Sequentially}
use Rattle.oa_group_commit.specs.promise.Groups.{Trace, Exchange, StateMachine, body_of, reply_of}
use Rattle.oa_store.specs.promise.Writing.{DeviceFrame}

-- Which groups are whole is known, whatever follows.
abbrev pub IsCut : {R : Type 0} → (List ℕ → Bool) → ℕ → List (List (Exchange R)) → List (Exchange R) → Type 0
IsCut {R} barrier size groups held =
    (later : List (Exchange R))
    → groups_of barrier size (concat_groups groups ++ (held ++ later)) ≡ groups ++ cut barrier size held later

-- The requests of the open group are a group.
abbrev pub IsNextGroup : {R : Type 0} → (List ℕ → Bool) → ℕ → List (List (Exchange R)) → List (Exchange R) → Type 0
IsNextGroup barrier size groups held = groups_of barrier size (concat_groups groups ++ held) ≡ groups ++ held ∷ []

-- Some whole groups were answered, and the requests of the open group are held. C states how the requests are divided
-- into groups.
pub record HealthyGroups {S R D : Type 0} {g : Ghosts D} (t : StateMachine S R)
    (C : List (List (Exchange R)) → List (Exchange R) → Type 0)
    (start now : GroupState S R D g) (bodies : List (List ℕ)) (out : List R) : Type 0 where
  pub groups : List (List (Exchange R))
  pub held : List (Exchange R)
  pub committed : S
  pub cuts : C groups held
  pub bodies_are : bodies ≡ map body_of (concat_groups groups ++ held)
  pub out_are : out ≡ map reply_of (concat_groups groups)
  pub pending_are : now.pending ≡ map reply_of held
  pub events_are : now.events ≡ events_in held
  pub stands : Trace t start.state (concat_groups groups) committed
  pub runs : Trace t committed held now.state
  -- no request of the open group has replaced the library
  pub same : t.text now.state ≡ t.text committed
  pub same_bank : t.bank now.state ≡ t.bank committed
  -- the disk after the groups
  pub mark : D
  pub in_turn : Sequentially t start.store.disk start.state groups mark committed
  pub calls : (now.store.disk ≡ mark) ⊎ CallsFor t committed held
  pub all : AllHoldState t start.store start.state → AllHoldState t now.store committed
  pub moments : HasMoments t start.store now.store start.state groups (length groups)

-- A call of the device failed, in the group after those that were answered. C states why that group ends, and what
-- followed it.
pub record FailedGroups {S R D : Type 0} {g : Ghosts D} (t : StateMachine S R) (size : ℕ)
    (C : S → List (Exchange R) → List (List ℕ) → Type 0)
    (start now : GroupState S R D g) (bodies : List (List ℕ)) (replies : List R) : Type 0 where
  pub groups : List (List (Exchange R))
  pub group : List (Exchange R)
  pub others : List (List ℕ)
  pub committed : S
  pub cuts : IsNextGroup t.barrier size groups group
  pub whole : C committed group others
  pub bodies_are : bodies ≡ map body_of (concat_groups groups ++ group) ++ others
  pub replies_are : replies
      ≡ map reply_of (concat_groups groups) ++ (map (λ asked. t.faulted asked.body) group ++ map t.failed others)
  pub stands : Trace t start.state (concat_groups groups) committed
  pub runs : Trace t committed group now.state
  pub called : CallsFor t committed group
  pub in_turn : Sequentially t start.store.disk start.state (groups ++ group ∷ []) now.store.disk now.state
  pub moments : HasMoments t start.store now.store start.state (groups ++ group ∷ []) (length groups)

-- These bodies were admitted since the start, and these replies returned.
pub record GroupInvariant {S R D : Type 0} {g : Ghosts D} (t : StateMachine S R) (size : ℕ)
    (start now : GroupState S R D g)
    (bodies : List (List ℕ))
    (out : List R) : Type 0 where
  pub going : now.store.stopped ≡ false → HealthyGroups t (IsCut t.barrier size) start now bodies out
  pub broken : now.store.stopped ≡ true → FailedGroups t size (IsWholeBefore t size) start now bodies out
  pub calls : CallsForRequests (length bodies) 0 start.store now.store
  pub goes : DeviceFrame start.store now.store
