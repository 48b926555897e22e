-- A call of a server over a store, whatever its requests are.
use Rattle.std.proofs.Common.{◌≡◌, ℕ, false, true, List, map}
use Rattle.oa_disk.specs.declared.disk.Disk.{Ghosts}
use Rattle.oa_group_commit.specs.promise.Groups.{IsServed, StateMachine}
use Rattle.oa_server.specs.promise.ServerMachine.{server_machine}
use Rattle.oa_server.specs.promise.Storages.{OverStore, Serves}
use Rattle.oa_server.specs.declared.storage.Storage.{Storage}
use Rattle.oa_server.specs.declared.storage.Storage.TheVariants.{Disk, Memory}
use Rattle.oa_store.specs.declared.store.Store.{Store}
use Rattle.oa_history.specs.promise.DurablePrefixes.{Serving}

-- the device has failed before
pub record AnswersLate {S R D : Type 0} {g : Ghosts D} (t : StateMachine S R) (old new : Store D g) (before after : S) (bodies : List (List ℕ))
    (replies : List R) : Type 0 where
  pub told : replies ≡ map t.failed bodies
  pub state : after ≡ before
  pub disk : new.disk ≡ old.disk
  pub stopped : new.stopped ≡ true

pub record ServesOver {S R D : Type 0} {g : Ghosts D} (t : StateMachine S R) (size : ℕ) (old new : Store D g) (before : S) (bodies : List (List ℕ))
    (replies : List R) (after : S) : Type 0 where
  pub served : old.stopped ≡ false → IsServed t size old new before after bodies replies
  pub late : old.stopped ≡ true → AnswersLate t old new before after bodies replies

-- what is said of a call says that of one over a store
abbrev pub IsServing : {S R D : Type 0} {g : Ghosts D} → StateMachine S R → Serving g S R → Type 0
IsServing {S} {R} {D} {g} t serving =
    (size : ℕ) (old : Store D g) (new : Storage D g) (before : S) (bodies : List (List ℕ)) (replies : List R) (after : S)
    → serving size (Disk old) new before bodies replies after → OverStore new (λ store. ServesOver t size old store before bodies replies after)

pub requests_are_served : {D : Type 0} (g : Ghosts D) → IsServing {g = g} server_machine Serves
requests_are_served g size old (Memory new) before bodies replies after is = absurd is
requests_are_served g size old (Disk new) before bodies replies after is = record {
  served = is.served;
  late = λ stopped. let late = is.late stopped in record { told = late.told; state = late.state; disk = late.disk; stopped = late.stopped };
}
