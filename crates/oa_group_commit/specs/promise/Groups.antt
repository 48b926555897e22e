-- Group commit: the state machine of requests, and its groups on a disk.
use Rattle.std.specs.Prelude.{◌+◌, ◌*◌, ◌≤◌, IsTrue, ℕ, ◌≡◌, Bool, false, List, true, ◌||◌, nat_le, if◌then◌else◌, []}
use Rattle.std.specs.Prelude.{◌∷◌, ◌++◌, length, ◌⊎◌, ◌<◌, Some, slice_get, ◌≢◌, ◌-◌, map}
use Rattle.oa_disk.specs.declared.disk.Disk.{Ghosts}
use Rattle.oa_journal.specs.promise.Bank.{body_bytes, Replays, ample_bytes}
use Rattle.oa_store.specs.promise.Stores.{most_checkpoint_calls, IsStoreIn}
use Rattle.oa_store.specs.declared.store.Store.{Store}
use Rattle.oa_table.specs.promise.Tables.{TableValue}
use Rattle.oa_model.specs.promise.Limits.{group_bytes}
use Rattle.oa_store.specs.promise.Holding.{AllHold, CommitsAtomically, LeavesCommitted, PreservesCommitted}
use Rattle.oa_journal.specs.declared.shape.BankFormat.TheVariants.{Two}
use Rattle.oa_disk.specs.promise.Disk.{CrashInvariant}
use Rattle.oa_store.specs.promise.Writing.{CallsForOneCheckpoint, DeviceFrame}

-- How many calls of the device requests make. (This project's choice.)

-- Each of `count` requests makes at most the calls of a checkpoint and the four of a commit; in all at most `more`
-- others. Each call advances the clock by at most two.
abbrev pub CallsForRequests : {D : Type 0} {g : Ghosts D} → ℕ → ℕ → Store D g → Store D g → Type 0
CallsForRequests {D} {g} count more old new =
    IsTrue (g.is_honest old.disk) → g.moment new.disk ≤ g.moment old.disk
    + (count * (2 * (most_checkpoint_calls (body_bytes old.bank.shape) + 4)) + 2 * more)

-- The state machine of a server, for any kind of requests, replies and states. (This project's choice.)

-- one request, its reply, and the bytes of the event that it made: none if it changed nothing of the table in an
-- image
pub record Exchange (R : Type 0) : Type 0 where
  pub body : List ℕ
  pub reply : R
  pub event : List ℕ

abbrev pub exchange : {R : Type 0} → List ℕ → R → List ℕ → Exchange R
exchange body reply event = record { body = body; reply = reply; event = event }

abbrev pub body_of : {R : Type 0} → Exchange R → List ℕ
body_of asked = asked.body

abbrev pub reply_of : {R : Type 0} → Exchange R → R
reply_of asked = asked.reply

-- A state machine: the requests of a server, with what the theory of groups needs of them.
pub record StateMachine (S R : Type 0) : Type 1 where
  -- what images contain of a state: the size of a bank's body in bytes, the text of a library, and a table
  pub bank : S → ℕ
  pub text : S → List ℕ
  pub held : S → TableValue
  -- The body is a group of its own (a barrier), and ends the group before it. No other body changes the library.
  pub barrier : List ℕ → Bool
  -- one request is answered, from a state to the next one
  pub Turn : Exchange R → S → S → Type 0
  -- the reply to a body in the group in which the device failed, and to later ones
  pub faulted : List ℕ → R
  pub failed : List ℕ → R
  -- the reply that replaces another one if its group could not be committed
  pub aborted : R → R
  -- the reply means that the request was done
  pub is_done : R → Bool
  -- the state after a crash and an opening: images contain the same of it
  pub opened : S → S
  pub reopens : (state : S)
      → (held (opened state) ≡ held state) × (text (opened state) ≡ text state) × (bank (opened state) ≡ bank state)
  pub sized : (asked : Exchange R) (old new : S) → Turn asked old new → bank new ≡ bank old
  pub stays : (asked : Exchange R) (old new : S) → Turn asked old new → barrier asked.body ≡ false → text new ≡ text old
  -- the event turns what images contain of the old state into what they contain of the new one
  pub replays : (asked : Exchange R) (old new : S) → Turn asked old new → Replays asked.event (held old) (held new)
  -- the replaced reply reports the fault
  pub tells : (asked : Exchange R) (old new : S) → Turn asked old new → aborted asked.reply ≡ faulted asked.body
  -- a refused request has changed nothing
  pub leaves : (asked : Exchange R) (old new : S) → Turn asked old new → is_done asked.reply ≡ false → new ≡ old

-- Where a list of requests is divided into groups. (This project's choice.)

-- the bytes of their events, one after the other
abbrev pub events_in : {R : Type 0} → List (Exchange R) → List ℕ
events_in [] = []
events_in (asked ∷ entries) = asked.event ++ events_in entries

-- this many requests, or this many bytes of events, fill a group
unfoldable pub fills : ℕ → ℕ → ℕ → Bool
fills size count bytes = nat_le size count || nat_le group_bytes bytes

abbrev pub is_full : {R : Type 0} → ℕ → List (Exchange R) → Bool
is_full size held = fills size (length held) (length (events_in held))

-- the requests that are held when the input ends are a group
abbrev pub rest_of : {R : Type 0} → List (Exchange R) → List (List (Exchange R))
rest_of [] = []
rest_of (asked ∷ held) = (asked ∷ held) ∷ []

-- the first of these bodies is a group of its own, so it ends the group before it
abbrev pub BeginsWithBarrier : (List ℕ → Bool) → List (List ℕ) → Type 0
BeginsWithBarrier barrier [] = ⊥
BeginsWithBarrier barrier (body ∷ bodies) = barrier body ≡ true

-- none of these bodies is a group of its own
abbrev pub HasNoBarrier : (List ℕ → Bool) → List (List ℕ) → Type 0
HasNoBarrier barrier [] = Unit {0}
HasNoBarrier barrier (body ∷ bodies) = (barrier body ≡ false) × HasNoBarrier barrier bodies

-- Requests are held until the group is full, or a request follows that is a group of its own, or the input ends.
abbrev pub cut : {R : Type 0} → (List ℕ → Bool) → ℕ → List (Exchange R) → List (Exchange R) → List (List (Exchange R))
cut barrier size held [] = rest_of held
cut barrier size held (asked ∷ entries) =
    if barrier asked.body then rest_of held ++ (asked ∷ []) ∷ cut barrier size [] entries
    else if is_full size (held ++ asked ∷ []) then (held ++ asked ∷ []) ∷ cut barrier size [] entries
    else cut barrier size (held ++ asked ∷ []) entries

abbrev pub groups_of : {R : Type 0} → (List ℕ → Bool) → ℕ → List (Exchange R) → List (List (Exchange R))
groups_of barrier size entries = cut barrier size [] entries

-- the requests of all groups
abbrev pub concat_groups : {R : Type 0} → List (List (Exchange R)) → List (Exchange R)
concat_groups [] = []
concat_groups (group ∷ groups) = group ++ concat_groups groups

-- Runs of a server, and what the images of its disk contain at each point in time. (This project's choice.)

-- turns one after another, from this state on
abbrev pub Trace : {S R : Type 0} → StateMachine S R → S → List (Exchange R) → S → Type 0
Trace t old [] new = old ≡ new
Trace {S} t old (asked ∷ entries) new = (mid : S) × t.Turn asked old mid × Trace t mid entries new

-- In this state some turn of the body makes an event.
pub record MakesEvent {S R : Type 0} (t : StateMachine S R) (state : S) (body : List ℕ) : Type 0 where
  pub reply : R
  pub event : List ℕ
  pub after : S
  pub turn : t.Turn (exchange body reply event) state after
  pub some : 0 < length event

-- One of these requests needs the device, in the state before it in a run from this one: it makes an event, also if
-- an allocation for it fails, or it replaces the library.
pub record CallsFor {S R : Type 0} (t : StateMachine S R) (first : S) (entries : List (Exchange R)) : Type 0 where
  pub front : List (Exchange R)
  pub asked : Exchange R
  pub back : List (Exchange R)
  pub are : entries ≡ front ++ asked ∷ back
  pub state : S
  pub run : Trace t first front state
  pub calls : MakesEvent t state asked.body ⊎ ((t.barrier asked.body ≡ true) × (t.is_done asked.reply ≡ true))

-- Each group is answered on the disk, and in the state, with which the one before ended. The device is called only in
-- a group with a request that needs it.
abbrev pub Sequentially : {S R D : Type 0} → StateMachine S R → D → S → List (List (Exchange R)) → D → S → Type 0
Sequentially t old before [] new after = (new ≡ old) × (after ≡ before)
Sequentially {S} {R} {D} t old before (group ∷ groups) new after =
    (mid : D) × (state : S) × Trace t before group state × ((mid ≡ old) ⊎ CallsFor t before group)
    × Sequentially t mid state groups new after

-- the image is a store of the state
abbrev pub HoldsState : {S R : Type 0} → StateMachine S R → S → List ℕ → Type 0
HoldsState t state image = IsStoreIn (Two (t.bank state)) image (t.text state) (t.held state)

-- The store has banks of the state's size and the library of the state, and each image of its disk is a store of the
-- state.
pub record AllHoldState {S R D : Type 0} {g : Ghosts D} (t : StateMachine S R) (store : Store D g)
    (state : S) : Type 0 where
  pub shape : store.bank.shape ≡ Two (t.bank state)
  pub has : store.library.items ≡ t.text state
  pub all : AllHold store (t.held state)

-- The image is a store of the state after `count` of the groups, or more.
pub record HoldsPrefix {S R : Type 0} (t : StateMachine S R) (count : ℕ) (first : S) (groups : List (List (Exchange R)))
    (image : List ℕ) : Type 0 where
  pub done : List (List (Exchange R))
  pub later : List (List (Exchange R))
  pub groups_are : groups ≡ done ++ later
  pub enough : count ≤ length done
  pub state : S
  pub run : Trace t first (concat_groups done) state
  pub holds : HoldsState t state image

-- each is at least the one before it
abbrev pub AscendsFrom : ℕ → List ℕ → Type 0
AscendsFrom from [] = Unit {0}
AscendsFrom from (m ∷ moments) = (from ≤ m) × AscendsFrom m moments

-- The points in time of a run: number 0 is its start, and each answered group adds one. Each image since number j is
-- a store of the state after j groups of the run, or more.
pub record IsRun {S R D : Type 0} (t : StateMachine S R) (moment : D → ℕ) (image_since : D → ℕ → List ℕ → Type 0)
    (old new : D)
    (first : S) (groups : List (List (Exchange R))) (count : ℕ) (moments : List ℕ) : Type 0 where
  pub start : slice_get moments 0 ≡ Some (moment old)
  pub rises : AscendsFrom (moment old) moments
  pub one_each : length moments ≡ count + 1
  pub past : (j m : ℕ) → slice_get moments j ≡ Some m → m ≤ moment new
  pub images : (j m : ℕ) → slice_get moments j ≡ Some m → (c : List ℕ) → image_since new m c
      → HoldsPrefix t j first groups c
  -- for runs that began earlier
  pub before : (m : ℕ) (c : List ℕ) → m ≤ moment old → image_since new m c
      → image_since old m c ⊎ HoldsPrefix t 0 first groups c

-- If each image is a store of the state at the start of a call, the run that the call makes has such points in time.
abbrev pub HasMoments : {S R D : Type 0} {g : Ghosts D} → StateMachine S R → Store D g → Store D g → S
    → List (List (Exchange R)) → ℕ → Type 0
HasMoments {S} {R} {D} {g} t old new first groups count =
    AllHoldState t old first
    → (moments : List ℕ) × IsRun t g.moment g.image_since old.disk new.disk first groups count moments

-- Where the group ends in which a call of the device fails. (This project's choice.)

-- The checkpoint before the first event of a group failed: the requests before the last one made no event, and the
-- last one makes one, in the state before it.
pub record EndsAtCheckpoint {S R : Type 0} (t : StateMachine S R) (first : S) (group : List (Exchange R)) : Type 0 where
  pub none : events_in group ≡ []
  pub front : List (Exchange R)
  pub last : Exchange R
  pub are : group ≡ front ++ last ∷ []
  pub state : S
  pub run : Trace t first front state
  pub makes : MakesEvent t state last.body

-- one request that is a group of its own (a barrier)
abbrev pub IsBarrierGroup : {R : Type 0} → (List ℕ → Bool) → List (Exchange R) → Type 0
IsBarrierGroup barrier [] = ⊥
IsBarrierGroup barrier (asked ∷ []) = barrier asked.body ≡ true
IsBarrierGroup barrier (asked ∷ (next ∷ rest)) = ⊥

-- The requests from this state on are a group, whatever follows: it is full, or the checkpoint before its first event
-- has failed, or it is one request that is a group of its own.
abbrev pub IsWhole : {S R : Type 0} → StateMachine S R → ℕ → S → List (Exchange R) → Type 0
IsWhole t size first group = (is_full size group ≡ true) ⊎
    (EndsAtCheckpoint t first group ⊎ IsBarrierGroup t.barrier group)

-- It is a group whatever follows, or it ends before a request that is a group of its own.
abbrev pub IsWholeBefore : {S R : Type 0} → StateMachine S R → ℕ → S → List (Exchange R) → List (List ℕ) → Type 0
IsWholeBefore t size first group others = IsWhole t size first group ⊎ BeginsWithBarrier t.barrier others

-- The group after these groups is the one in which a call of the device failed: one of its requests needs the device.
-- It ends so, or with the input.
pub record IsFaultIn {S R : Type 0} (t : StateMachine S R) (size : ℕ) (first : S) (groups : List (List (Exchange R)))
    (group : List (Exchange R))
    (others : List (List ℕ)) : Type 0 where
  pub state : S
  pub before : Trace t first (concat_groups groups) state
  pub called : CallsFor t state group
  pub ends : (others ≡ []) ⊎ IsWholeBefore t size state group others

-- A server with its store, its state and the open group. (This project's choice.)

-- pending: the replies that are held back; events: the bytes of the events that are not committed
pub record GroupState (S R D : Type 0) (g : Ghosts D) : Type 0 where
  pub store : Store D g
  pub state : S
  pub pending : List R
  pub events : List ℕ

-- A checkpoint is due before an event of this request: the event is the first of its group, and too little of the
-- store's bank is free.
pub record IsDue {S R D : Type 0} {g : Ghosts D} (t : StateMachine S R) (store : Store D g) (state : S)
    (events body : List ℕ) : Type 0 where
  pub first : length events ≡ 0
  pub short : body_bytes store.bank.shape - store.bank.gate < ample_bytes
  pub makes : MakesEvent t state body

-- A crash at any point in time of a call leaves an image with this property.
abbrev pub LeavesState : {D : Type 0} {g : Ghosts D} → Store D g → Store D g → (List ℕ → Type 0) → Type 0
LeavesState {D} {g} old new P = CrashInvariant g.moment g.image_since old.disk new.disk P

-- One request is answered by a turn, and its reply and its event are held. The images contain what they contained
-- before, which is the state as long as the open group has no event.
pub record IsBuffered {S R D : Type 0} {g : Ghosts D} (t : StateMachine S R) (asked : Exchange R)
    (old new : GroupState S R D g) : Type 0 where
  pub turn : t.Turn asked old.state new.state
  -- the request is not a group of its own
  pub plain : t.barrier asked.body ≡ false
  pub pending : new.pending ≡ old.pending ++ asked.reply ∷ []
  pub events : new.events ≡ old.events ++ asked.event
  pub going : new.store.stopped ≡ false
  -- the device is called only for a checkpoint
  pub calls : (new.store.disk ≡ old.store.disk) ⊎ IsDue t old.store old.state old.events asked.body
  pub carries : PreservesCommitted old.events (t.held old.state) old.store new.store
  pub goes : DeviceFrame old.store new.store

-- The open group ends, and its replies are returned: unchanged, or as faults if the group could not be committed.
pub record IsGroupCommitted {S R D : Type 0} {g : Ghosts D} (t : StateMachine S R) (told : List R)
    (old new : GroupState S R D g) : Type 0 where
  pub state : new.state ≡ old.state
  pub well : new.store.stopped ≡ false → (told ≡ old.pending) × (new.pending ≡ []) × (new.events ≡ [])
  pub broken : new.store.stopped ≡ true → told ≡ map t.aborted old.pending
  pub quiet : length old.events ≡ 0 → (new.store.disk ≡ old.store.disk) × (new.store.stopped ≡ false)
  -- by at most four calls of the device, and no checkpoint
  pub calls : IsTrue (g.is_honest old.store.disk) → g.moment new.store.disk ≤ g.moment old.store.disk + 8
  pub chosen : new.store.chosen ≡ old.store.chosen
  pub commits : CommitsAtomically old.events old.store new.store
  pub goes : DeviceFrame old.store new.store

-- The checkpoint before a request's event was due, and failed: the group ends with this request, and its replies
-- become faults. A turn without an event, which changes nothing in the images, replaces the request.
pub record FailsAtCheckpoint {S R D : Type 0} {g : Ghosts D} (t : StateMachine S R) (body : List ℕ) (told : List R)
    (old new : GroupState S R D g) : Type 0 where
  pub reply : R
  pub event : List ℕ
  pub turn : t.Turn (exchange body reply event) old.state new.state
  pub plain : t.barrier body ≡ false
  pub due : IsDue t old.store old.state old.events body
  pub none : event ≡ []
  pub same : t.held new.state ≡ t.held old.state
  pub told_are : told ≡ map t.aborted old.pending ++ t.faulted body ∷ []
  pub stopped : new.store.stopped ≡ true
  pub any_moment : LeavesCommitted old.events (t.held old.state) old.store new.store
  pub once : CallsForOneCheckpoint old.store new.store
  pub goes : DeviceFrame old.store new.store

-- After a fault of the device nothing is done.
pub record IsAfterFault {S R D : Type 0} {g : Ghosts D} (old new : GroupState S R D g) : Type 0 where
  pub was : old.store.stopped ≡ true
  pub is : new.store.stopped ≡ true
  pub disk : new.store.disk ≡ old.store.disk
  pub state : new.state ≡ old.state
  pub goes : DeviceFrame old.store new.store

-- A request that is a group of its own is answered while no group is open. It makes no event. If it is done, the
-- store continues with the library of the new state; if not, the device is not called. A crash at any point in time
-- leaves the state before or after it.
pub record IsBarrierAnswered {S R D : Type 0} {g : Ghosts D} (t : StateMachine S R) (asked : Exchange R) (told : List R)
    (old new : GroupState S R D g) : Type 0 where
  pub turn : t.Turn asked old.state new.state
  pub barrier : t.barrier asked.body ≡ true
  pub none : asked.event ≡ []
  pub idle : (old.pending ≡ []) × (old.events ≡ [])
  pub idle_still : (new.pending ≡ []) × (new.events ≡ [])
  pub well : new.store.stopped ≡ false → told ≡ asked.reply ∷ []
  pub broken : new.store.stopped ≡ true → told ≡ t.faulted asked.body ∷ []
  -- if a call of the device fails, the turn is one of a request that is done
  pub doubt : new.store.stopped ≡ true → t.is_done asked.reply ≡ true
  pub quiet : t.is_done asked.reply ≡ false → new.store.disk ≡ old.store.disk
  pub once : CallsForOneCheckpoint old.store new.store
  pub any_moment : AllHoldState t old.store old.state
      → LeavesState old.store new.store (λ c. HoldsState t old.state c ⊎ HoldsState t new.state c)
  pub each : new.store.stopped ≡ false → AllHoldState t old.store old.state → AllHoldState t new.store new.state
  pub goes : DeviceFrame old.store new.store

-- the request is held, and the group stays open
pub record KeepsGroupOpen {S R D : Type 0} {g : Ghosts D} (t : StateMachine S R) (size : ℕ) (body : List ℕ)
    (told : List R)
    (old new : GroupState S R D g) : Type 0 where
  pub was : old.store.stopped ≡ false
  pub reply : R
  pub event : List ℕ
  pub held : IsBuffered t (exchange body reply event) old new
  pub short : fills size (length new.pending) (length new.events) ≡ false
  pub nothing : told ≡ []

-- the request is held, and that fills the group, which ends
pub record FillsGroup {S R D : Type 0} {g : Ghosts D} (t : StateMachine S R) (size : ℕ) (body : List ℕ) (told : List R)
    (old new : GroupState S R D g) : Type 0 where
  pub was : old.store.stopped ≡ false
  pub reply : R
  pub event : List ℕ
  pub mid : GroupState S R D g
  pub held : IsBuffered t (exchange body reply event) old mid
  pub full : fills size (length mid.pending) (length mid.events) ≡ true
  pub settled : IsGroupCommitted t told mid new

-- its checkpoint fails
pub record IsFaulted {S R D : Type 0} {g : Ghosts D} (t : StateMachine S R) (body : List ℕ) (told : List R)
    (old new : GroupState S R D g) : Type 0 where
  pub was : old.store.stopped ≡ false
  pub failed : FailsAtCheckpoint t body told old new

-- the device failed before
pub record IsTooLate {S R D : Type 0} {g : Ghosts D} (t : StateMachine S R) (body : List ℕ) (told : List R)
    (old new : GroupState S R D g) : Type 0 where
  pub over : IsAfterFault old new
  pub told_is : told ≡ t.failed body ∷ []

-- no group was open
pub record IsIdle {S R D : Type 0} {g : Ghosts D} (told : List R) (old new : GroupState S R D g) : Type 0 where
  pub none : old.pending ≡ []
  pub nothing : told ≡ []
  pub store : new.store ≡ old.store
  pub state : new.state ≡ old.state

-- the open group ends
pub record IsLast {S R D : Type 0} {g : Ghosts D} (t : StateMachine S R) (told : List R)
    (old new : GroupState S R D g) : Type 0 where
  pub was : old.store.stopped ≡ false
  pub some : old.pending ≢ []
  pub settled : IsGroupCommitted t told old new

-- the device failed before
pub record IsLeft {S R D : Type 0} {g : Ghosts D} (told : List R) (old new : GroupState S R D g) : Type 0 where
  pub over : IsAfterFault old new
  pub nothing : told ≡ []

-- The open group, if there is one, ends.
abbrev pub IsFlushed : {S R D : Type 0} {g : Ghosts D} → StateMachine S R → List R → GroupState S R D g
    → GroupState S R D g
    → Type 0
IsFlushed t told old new = IsIdle told old new ⊎ IsLast t told old new

-- The request is a group of its own: first the open group ends, and then, unless that could not be committed, the
-- request is answered.
pub record IsApart {S R D : Type 0} {g : Ghosts D} (t : StateMachine S R) (body : List ℕ) (told : List R)
    (old new : GroupState S R D g) : Type 0 where
  pub was : old.store.stopped ≡ false
  pub barrier : t.barrier body ≡ true
  pub mid : GroupState S R D g
  pub before : List R
  pub after : List R
  pub told_are : told ≡ before ++ after
  pub flushed : IsFlushed t before old mid
  pub going : mid.store.stopped ≡ false → (reply : R) × IsBarrierAnswered t (exchange body reply []) after mid new
  pub late : mid.store.stopped ≡ true → (after ≡ t.failed body ∷ []) × IsAfterFault mid new

-- One request is admitted, and these replies are returned.
abbrev pub IsAdmitted : {S R D : Type 0} {g : Ghosts D} → StateMachine S R → ℕ → List ℕ → List R → GroupState S R D g
    → GroupState S R D g → Type 0
IsAdmitted t size body told old new =
    KeepsGroupOpen t size body told old new
    ⊎ (FillsGroup t size body told old new
    ⊎ (IsFaulted t body told old new ⊎ (IsTooLate t body told old new ⊎ IsApart t body told old new)))

-- The input has ended, and these replies are returned.
abbrev pub IsEnded : {S R D : Type 0} {g : Ghosts D} → StateMachine S R → List R → GroupState S R D g
    → GroupState S R D g → Type 0
IsEnded t told old new = IsIdle told old new ⊎ (IsLast t told old new ⊎ IsLeft told old new)

-- What a call with a list of requests returns, and what a crash at any point in time of it leaves. (This project's
-- choice.)

-- The replies to these bodies are those of a run, group for group. If a call of the device failed, the run ends with
-- that group, which is answered with the fault; later bodies are not looked at.
pub record ServedInGroups {S R : Type 0} (t : StateMachine S R) (size : ℕ) (first : S) (bodies : List (List ℕ))
    (replies : List R) (last : S)
    (groups faulted : List (List (Exchange R))) (others : List (List ℕ)) : Type 0 where
  pub bodies_are : bodies ≡ map body_of (concat_groups (groups ++ faulted)) ++ others
  pub run : Trace t first (concat_groups (groups ++ faulted)) last
  pub groups_are : groups_of t.barrier size (concat_groups (groups ++ faulted)) ≡ groups ++ faulted
  pub fault : (group : List (Exchange R)) → faulted ≡ group ∷ [] → IsFaultIn t size first groups group others
  pub replies_are : replies
      ≡ map reply_of (concat_groups groups) ++
      (map (λ asked. t.faulted asked.body) (concat_groups faulted) ++ map t.failed others)

-- A call on a store that has not stopped: its replies are served, and its groups have their points in time.
pub record IsServed {S R D : Type 0} {g : Ghosts D} (t : StateMachine S R) (size : ℕ) (old new : Store D g)
    (before after : S)
    (bodies : List (List ℕ)) (replies : List R) : Type 0 where
  pub groups : List (List (Exchange R))
  -- the group in which the device failed
  pub faulted : List (List (Exchange R))
  pub others : List (List ℕ)
  pub served : ServedInGroups t size before bodies replies after groups faulted others
  pub well : new.stopped ≡ false → (faulted ≡ []) × (others ≡ [])
  pub fault : new.stopped ≡ true → length faulted ≡ 1
  -- bodies after the group of the fault call nothing
  pub in_turn : Sequentially t old.disk before (groups ++ faulted) new.disk after
  pub moments : HasMoments t old new before (groups ++ faulted) (length groups)
  -- and the next call may begin
  pub all : new.stopped ≡ false → AllHoldState t old before → AllHoldState t new after
  -- at most the calls of a checkpoint and a commit for each request, and those of a commit at the end
  pub calls : CallsForRequests (length bodies) 4 old new
  pub goes : DeviceFrame old new

-- A session: one call after another. (This project's choice.)

-- a call: requests in groups of a size, and their replies
pub record AnsweredCall (R : Type 0) : Type 0 where
  pub size : ℕ
  pub bodies : List (List ℕ)
  pub replies : List R

-- A call is served; `was` and `is` say whether the device has failed before it and after it. Its groups are the
-- answered ones and, if the device failed in it, the one in which that happened.
pub record IsCalled {S R : Type 0} (t : StateMachine S R) (was : Bool) (first : S) (call : AnsweredCall R)
    (groups : List (List (Exchange R)))
    (count : ℕ)
    (is : Bool) (last : S) : Type 0 where
  pub answered : List (List (Exchange R))
  pub faulted : List (List (Exchange R))
  pub others : List (List ℕ)
  pub served : ServedInGroups t call.size first call.bodies call.replies last answered faulted others
  pub groups_are : groups ≡ answered ++ faulted
  pub count_is : count ≡ length answered
  -- if the device has not failed, everything was answered
  pub well : is ≡ false → (faulted ≡ []) × (others ≡ [])
  -- the device fails in one group
  pub fault : was ≡ false → is ≡ true → length faulted ≡ 1
  -- and after that nothing is done
  pub late : was ≡ true → (answered ≡ []) × (faulted ≡ []) × (is ≡ true)

-- Each call is served, in the state in which the one before ended. The groups are those of all calls, and `count`
-- of them were answered.
abbrev pub ServesCalls : {S R : Type 0} → StateMachine S R → Bool → S → List (AnsweredCall R) → List
    (List (Exchange R)) → ℕ
    → Bool → S → Type 0
ServesCalls t was first [] groups count is last = (groups ≡ []) × (count ≡ 0) × (is ≡ was) × (first ≡ last)
ServesCalls {S} {R} t was first (call ∷ calls) groups count is last =
    (mid : S) × (between : Bool) × (own : List (List (Exchange R))) × (later : List (List (Exchange R))) × (here : ℕ)
    × (after : ℕ)
    × IsCalled t was first call own here between mid × (groups ≡ own ++ later) × (count ≡ here + after)
    × ServesCalls t between mid calls later after is last

-- Each image since point in time number j is a store of the state after j of these groups, or more.
pub record IsSession {S R D : Type 0} (t : StateMachine S R) (moment : D → ℕ) (image_since : D → ℕ → List ℕ → Type 0)
    (old new : D)
    (first : S) (calls : List (AnsweredCall R)) (last : S) : Type 0 where
  pub groups : List (List (Exchange R))
  pub count : ℕ
  -- whether a call of the device has failed
  pub stopped : Bool
  pub served : ServesCalls t false first calls groups count stopped last
  pub moments : List ℕ
  pub run : IsRun t moment image_since old new first groups count moments

-- the same with the trait's members of a disk
abbrev pub IsSessionOn : {S R D : Type 0} → StateMachine S R → Ghosts D → D → D → S → List (AnsweredCall R) → S → Type 0
IsSessionOn t g old new first calls last = IsSession t g.moment g.image_since old new first calls last

-- A session in progress: its beginning, its present state, and its calls.
pub record OpenSession {S R D : Type 0} {g : Ghosts D} (t : StateMachine S R) (start : D) (now : Store D g)
    (first last : S) (calls : List (AnsweredCall R)) : Type 0 where
  pub session : IsSessionOn t g start now.disk first calls last
  pub going : session.stopped ≡ false
  pub whole : session.count ≡ length session.groups
  pub run : Trace t first (concat_groups session.groups) last
  pub all : AllHoldState t now last

-- Crash histories: sessions that crash, each opened on what the crash before it left. (This project's choice.)

-- a crash at this point in time may leave the image
abbrev pub MayBeLeft : {D : Type 0} → Ghosts D → D → ℕ → List ℕ → Type 0
MayBeLeft g disk stop image = (m : ℕ) → m ≤ stop → g.image_since disk m image

-- the requests that were done
abbrev pub accepted : {S R : Type 0} → StateMachine S R → List (Exchange R) → List (Exchange R)
accepted t [] = []
accepted t (asked ∷ entries) = if t.is_done asked.reply then asked ∷ accepted t entries else accepted t entries
