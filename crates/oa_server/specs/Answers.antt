-- Definitions for contracts and proofs, beside promise/ServerMachine.
use Rattle.std.specs.Prelude.{◌≡◌, ◌⊎◌, ℕ, ◌+◌, ◌*◌, ◌≤◌, IsTrue, true, false, List, [], ◌∷◌}
use Rattle.oa_disk.specs.declared.disk.Disk.{Ghosts}
use Rattle.oa_group_commit.specs.promise.Groups.{IsServed, IsBarrierAnswered, LeavesState, AllHoldState, HoldsState}
use Rattle.oa_group_commit.specs.promise.Groups.{exchange}
use Rattle.oa_store.specs.promise.Writing.{DeviceFrame}
use Rattle.oa_server.specs.OpenGroups.{IsDueFor, grouping}
use Rattle.oa_record.specs.promise.Asks.{Asks}
use Rattle.oa_record.specs.promise.Replacement.{is_replacement}
use Rattle.oa_record.specs.promise.Replies.{ReplyValue}
use Rattle.oa_record.specs.declared.request.Request.{Request}
use Rattle.oa_store.specs.promise.Stores.{checkpoint_calls}
use Rattle.oa_store.specs.declared.store.Store.{Store}
use Rattle.oa_turn.specs.promise.Events.{change_bytes, is_done}
use Rattle.oa_server.specs.promise.ServerMachine.{failed_reply, fault_reply, server_machine, CallsForLibrary}
use Rattle.oa_decision.specs.promise.States.{State}
use Rattle.oa_turn.specs.promise.Steps.{outcome}
use Rattle.oa_turn.specs.promise.Turns.{Turn}

-- the body's request makes no event
abbrev pub MakesNoEvent : State → List ℕ → Type 0
MakesNoEvent state body = (request : Request) → Asks body request → change_bytes (outcome state request).event ≡ []

-- A body that does not replace the library makes at most four calls of the device, and those of a checkpoint if one
-- is due before its event.
abbrev pub CallsForOne : {D : Type 0} {g : Ghosts D} → Store D g → Store D g → State → List ℕ → Type 0
CallsForOne {D} {g} old new before body =
    (g.moment new.disk ≤ g.moment old.disk + 8)
    ⊎ (IsDueFor old before [] body
    × (g.moment new.disk ≤ g.moment old.disk + (2 * checkpoint_calls old.library.items before.table + 8)))

-- After a fault of the device, the reply is that the store has failed, and nothing is done. Before a fault, the body
-- is answered by a turn, or a call of the device fails in it: then the reply reports that, and the state is the one
-- after some turn of the body.
pub record IsAnswered {D : Type 0} {g : Ghosts D} (old new : Store D g) (before after : State) (body : List ℕ)
    (reply : ReplyValue) : Type 0 where
  pub late : old.stopped ≡ true
      → (reply ≡ failed_reply body) × (after ≡ before) × (new.disk ≡ old.disk) × (new.stopped ≡ true)
  pub going : old.stopped ≡ false → new.stopped ≡ false → Turn before body reply after
  pub doubt : old.stopped ≡ false → new.stopped ≡ true
      → (reply ≡ fault_reply body) × ((due : ReplyValue) × Turn before body due after)
  -- if it fails in a replacement, that turn is one that is done: the state has the new library
  pub replaced : old.stopped ≡ false → new.stopped ≡ true → is_replacement body ≡ true
      → (due : ReplyValue) × Turn before body due after × (is_done due ≡ true)
  -- at every point in time each image is a store of the library and the table before, or of those after
  pub any_moment : old.stopped ≡ false → AllHoldState server_machine old before
      → LeavesState old new (λ c. HoldsState server_machine before c ⊎ HoldsState server_machine after c)
  -- and at the end, without a fault, of those after
  pub each : old.stopped ≡ false → new.stopped ≡ false → AllHoldState server_machine old before
      → AllHoldState server_machine new after
  pub goes : DeviceFrame old new
  -- A body that makes no event makes no call of the device, so none fails; the same is true of a refused replacement
  -- of the library.
  pub quiet : old.stopped ≡ false → is_replacement body ≡ false → MakesNoEvent before body
      → (new.disk ≡ old.disk) × (new.stopped ≡ false)
  pub refused : old.stopped ≡ false → new.stopped ≡ false → is_replacement body ≡ true → is_done reply ≡ false
      → new.disk ≡ old.disk
  pub calls : old.stopped ≡ false → is_replacement body ≡ false → IsTrue (g.is_honest old.disk)
      → CallsForOne old new before body
  pub library_calls : old.stopped ≡ false → is_replacement body ≡ true → CallsForLibrary old new after
  -- it is a group of one, with its points in time
  pub served : old.stopped ≡ false → IsServed server_machine 1 old new before after (body ∷ []) (reply ∷ [])

-- A body that replaces the library is answered as a group of its own, while no group is open.
pub record IsReplacedOver {D : Type 0} {g : Ghosts D} (old new : Store D g) (before after : State) (body : List ℕ)
    (reply : ReplyValue) : Type 0 where
  pub due : ReplyValue
  pub replaced : IsBarrierAnswered server_machine (exchange body due []) (reply ∷ []) (grouping old before [] [])
      (grouping new after [] [])
  pub calls : CallsForLibrary old new after

abbrev pub IsReplacedOrLate : {D : Type 0} {g : Ghosts D} → Store D g → Store D g → State → State → List ℕ → ReplyValue
    → Type 0
IsReplacedOrLate old new before after body reply =
    (old.stopped ≡ false → IsReplacedOver old new before after body reply)
    × (old.stopped ≡ true → (reply ≡ failed_reply body) × (new ≡ old) × (after ≡ before))
