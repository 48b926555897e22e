-- Definitions for contracts and proofs, beside promise/SharedSessions.
use Rattle.std.specs.Prelude.{◌≡◌, ℕ, ◌≤◌, false, List, [], length, vec_capacity}
use Rattle.oa_disk.specs.declared.disk.Disk.{Ghosts}
use Rattle.oa_group_commit.specs.promise.Groups.{GroupState, IsAdmitted, exchange}
use Rattle.oa_server.specs.OpenGroups.{CanTake, CanTakeCleared}
use Rattle.oa_server.specs.promise.SharedMachine.{ClientReply, IsSharedTurn, Shared, shared_machine}
use Rattle.oa_server.specs.declared.desk.SharedGroup.{SharedGroup}
use Rattle.oa_store.specs.declared.store.Store.{Store}
use Rattle.oa_decision.specs.promise.States.{State}
use Rattle.oa_turn.specs.promise.Events.{held_of}
use Rattle.oa_server.specs.promise.SharedSessions.{told_to, shared_group_state}

-- after the held replies were sent
abbrev pub cleared_desk : {D : Type 0} {g : Ghosts D} → Store D g → State → SharedGroup
    → GroupState Shared ClientReply D g
cleared_desk store state desk = shared_group_state store state desk.owners desk.askers.items [] desk.open_group.batch

abbrev pub told_at : SharedGroup → List ClientReply
told_at desk = told_to desk.askers.items desk.open_group.replies.items

-- One more request can be executed, and each reply has its client.
pub record DeskIsReady {D : Type 0} {g : Ghosts D} (store : Store D g) (desk : SharedGroup) : Type 0 where
  pub ready : CanTake store desk.open_group
  pub each : length desk.askers.items ≡ length desk.open_group.replies.items
  pub places : desk.open_group.size ≤ vec_capacity desk.askers

-- the same after its replies were sent
pub record DeskIsReadyCleared {D : Type 0} {g : Ghosts D} (store : Store D g) (desk : SharedGroup) : Type 0 where
  pub ready : CanTakeCleared store desk.open_group
  pub each : length desk.askers.items ≡ length desk.open_group.replies.items
  pub places : desk.open_group.size ≤ vec_capacity desk.askers

-- A turn that makes no event, changes nothing in images, and is not a group of its own.
pub record IsEventless (body : List ℕ) (told : ClientReply) (before after : Shared) : Type 0 where
  pub turn : IsSharedTurn (exchange body told []) before after
  pub plain : shared_machine.barrier body ≡ false
  pub same : held_of after.state ≡ held_of before.state

-- Whichever such turn has led to this state, what follows executes it.
abbrev pub HoldsFrom : {D : Type 0} {g : Ghosts D} → Store D g → SharedGroup → ClientReply → Shared → List ClientReply
    → GroupState Shared ClientReply D g → Type 0
HoldsFrom {D} {g} store desk reply after told new =
    (before : Shared) (body : List ℕ) → IsEventless body reply before after
    → IsAdmitted shared_machine desk.open_group.size body told
    (record { store = store; state = before; pending = told_at desk; events = desk.open_group.batch }) new

-- The held replies are dropped; everything else stays.
pub record ClearsDesk (old new : SharedGroup) : Type 0 where
  pub askers : new.askers.items ≡ []
  pub replies : new.open_group.replies.items ≡ []
  pub batch : new.open_group.batch ≡ old.open_group.batch
  pub size : new.open_group.size ≡ old.open_group.size
  pub owners : new.owners ≡ old.owners
  pub places : vec_capacity new.askers ≡ vec_capacity old.askers
  pub reply_places : vec_capacity new.open_group.replies ≡ vec_capacity old.open_group.replies
