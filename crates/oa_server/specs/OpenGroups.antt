-- A server over a store, and the open group. (This project's choice.)
use Rattle.std.specs.Prelude.{◌≡◌, ◌⊎◌, ◌-◌, ◌<◌, ◌≤◌, ◌++◌, ◌+◌, ◌*◌, ℕ, IsTrue, true, false, List, [], length}
use Rattle.std.specs.Prelude.{vec_capacity, Result, IsOk, IsErrOf, OnOk, OnErr}
use Rattle.oa_disk.specs.promise.Disk.{HasCounted}
use Rattle.oa_disk.specs.declared.disk.Disk.{Ghosts}
use Rattle.oa_group_commit.specs.promise.Groups.{GroupState, IsDue}
use Rattle.oa_image.specs.promise.Events.{event_image}
use Rattle.oa_journal.specs.promise.Bank.{Replays, ample_bytes, body_bytes}
use Rattle.oa_store.specs.promise.Holding.{PreservesCommitted}
use Rattle.oa_store.specs.Kept.{HasRoom}
use Rattle.oa_model.specs.promise.Limits.{group_bytes, max_event_bytes}
use Rattle.oa_record.specs.promise.Replies.{ReplyValue}
use Rattle.oa_store.specs.promise.Stores.{checkpoint_calls}
use Rattle.oa_store.specs.promise.Writing.{DeviceFrame}
use Rattle.oa_store.specs.declared.store.Store.{Store}
use Rattle.oa_table.specs.Events.{BringsNoLocks}
use Rattle.oa_table.specs.promise.Tables.{TableValue}
use Rattle.oa_table.specs.declared.event.Event.{Event}
use Rattle.oa_server.specs.declared.fault.HoldFault.{HoldFault}
use Rattle.oa_server.specs.declared.fault.HoldFault.TheVariants as faults
use Rattle.oa_server.specs.declared.open_group.OpenGroup.{OpenGroup}
use Rattle.oa_server.specs.ServerMachine.{HasTurn}
use Rattle.oa_server.specs.promise.ServerMachine.{server_machine}
use Rattle.oa_turn.specs.promise.Events.{held_of}
use Rattle.oa_decision.specs.promise.Limits.{allowed}
use Rattle.oa_decision.specs.promise.States.{State}

-- the store, the state, the held replies, the events that are not committed
abbrev pub grouping : {D : Type 0} {g : Ghosts D} → Store D g → State → List ReplyValue → List ℕ
    → GroupState State ReplyValue D g
grouping store state pending events = record { store = store; state = state; pending = pending; events = events }

-- with the open group, and after its replies were sent
abbrev pub grouping_of : {D : Type 0} {g : Ghosts D} → Store D g → State → OpenGroup → GroupState State ReplyValue D g
grouping_of store state open_group = grouping store state open_group.replies.items open_group.batch

abbrev pub cleared_grouping : {D : Type 0} {g : Ghosts D} → Store D g → State → OpenGroup
    → GroupState State ReplyValue D g
cleared_grouping store state open_group = grouping store state [] open_group.batch

-- the state has the size of the store's banks
abbrev pub HasBanks : {D : Type 0} {g : Ghosts D} → Store D g → State → Type 0
HasBanks store state = body_bytes store.bank.shape ≡ state.bank

-- One more request can be executed: there is capacity for a group's replies, and the open group is not full. After a
-- fault nothing is held.
pub record IsReady {D : Type 0} {g : Ghosts D} (store : Store D g) (size places : ℕ) (pending : List ReplyValue)
    (events : List ℕ) : Type 0 where
  pub place : size ≤ places
  pub few : length pending < size
  pub room : store.stopped ≡ false → HasRoom events store
  pub small : store.stopped ≡ false → length events < group_bytes
  pub late : store.stopped ≡ true → pending ≡ []

-- one more request fits into the open group
abbrev pub CanTake : {D : Type 0} {g : Ghosts D} → Store D g → OpenGroup → Type 0
CanTake store open_group =
    IsReady store open_group.size (vec_capacity open_group.replies) open_group.replies.items open_group.batch

-- it does after its replies were sent
abbrev pub CanTakeCleared : {D : Type 0} {g : Ghosts D} → Store D g → OpenGroup → Type 0
CanTakeCleared store open_group = IsReady store open_group.size (vec_capacity open_group.replies) [] open_group.batch

-- a checkpoint is due before an event of this body
abbrev pub IsDueFor : {D : Type 0} {g : Ghosts D} → Store D g → State → List ℕ → List ℕ → Type 0
IsDueFor store state events body = IsDue server_machine store state events body

-- The device is called only for a checkpoint, if one is due.
abbrev pub CallsWhereDue : {D : Type 0} {g : Ghosts D} → Store D g → Store D g → State → List ℕ → List ℕ → Type 0
CallsWhereDue old new state events body = (new.disk ≡ old.disk) ⊎ IsDueFor old state events body

-- with at most the calls of one
abbrev pub CallsForCheckpoint : {D : Type 0} {g : Ghosts D} → Store D g → Store D g → TableValue → Type 0
CallsForCheckpoint {D} {g} old new table =
    IsTrue (g.is_honest old.disk) → g.moment new.disk ≤ g.moment old.disk + 2 * checkpoint_calls old.library.items table

-- What a turn over a store leaves of it. Committed events stay; no checkpoint is made unless one is due; the store
-- has stopped exactly if that failed.
pub record HoldsOn {D T E : Type 0} {g : Ghosts D} (events events' : List ℕ) (held : TableValue) (old new : Store D g)
    (result : Result T E) : Type 0 where
  pub carries : PreservesCommitted events held old new
  pub undue : ample_bytes ≤ body_bytes old.bank.shape - old.bank.gate → new.disk ≡ old.disk
  pub room : new.stopped ≡ false → HasRoom events' new
  pub going : OnOk result (new.stopped ≡ false)
  pub stops : OnErr result (new.stopped ≡ true)
  pub goes : DeviceFrame old new

-- The checkpoint before a body's event, which was due, has failed: the turn is one that changes nothing in images.
pub record IsCutOff {D : Type 0} {g : Ghosts D} (store : Store D g) (body events events' : List ℕ)
    (old new : State) : Type 0 where
  pub turn : HasTurn body old new
  pub same : events' ≡ events
  pub due : IsDueFor store old events body

-- a change has no locks, and is within the limits
pub record CanBeMade (state : State) (event : Event) : Type 0 where
  pub unlocked : BringsNoLocks event
  pub allows : IsOk (allowed state.bank event state.table)

-- the event of a change that was made follows those of the open group
pub record IsAdded (event : Event) (events events' : List ℕ) (old new : State) : Type 0 where
  pub replays : Replays (event_image event) (held_of old) (held_of new)
  pub small : length (event_image event) ≤ max_event_bytes
  pub some : 0 < length (event_image event)
  pub behind : events' ≡ events ++ event_image event

-- The device is called only for a checkpoint that is due, before the first event of a group.
pub record CallsForRoom {D T : Type 0} {g : Ghosts D} (batch held : List ℕ) (old new : Store D g)
    (result : Result T HoldFault) : Type 0 where
  pub quiet : 0 < length batch → new.disk ≡ old.disk
  pub undue : ample_bytes ≤ body_bytes old.bank.shape - old.bank.gate → new.disk ≡ old.disk
  pub first : IsErrOf result faults.Device → length batch ≡ 0
  pub due : IsErrOf result faults.Device → body_bytes old.bank.shape - old.bank.gate < ample_bytes
  pub room : new.stopped ≡ false → HasRoom held new

-- The store stops exactly if a checkpoint fails.
pub record StopsAtCheckpoint {D T : Type 0} {g : Ghosts D} (old new : Store D g)
    (result : Result T HoldFault) : Type 0 where
  pub going : (IsErrOf result faults.Device → ⊥) → new.stopped ≡ false
  pub stops : IsErrOf result faults.Device
      → (new.stopped ≡ true) × HasCounted (g.failures_of old.disk) (g.failures_of new.disk)

-- what a checkpoint before an event leaves of the store, which stops exactly if it fails
pub record MakesWay {D T : Type 0} {g : Ghosts D} (events : List ℕ) (held : TableValue) (old new : Store D g)
    (result : Result T HoldFault) : Type 0 where
  pub carries : PreservesCommitted events held old new
  pub stops : StopsAtCheckpoint old new result
  pub goes : DeviceFrame old new

-- replies with this property were returned
pub record HandsOut (P : List ReplyValue → Type 0) (old new : List ReplyValue) : Type 0 where
  pub told : List ReplyValue
  pub is : P told
  pub out : new ≡ old ++ told
