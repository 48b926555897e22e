-- A server of many clients: what it begins with, and that one can begin again with what it leaves.
use Rattle.std.proofs.Common.{◌≡◌, inl, inr, ℕ, ◌+◌, ◌≤◌, IsTrue, List, [], ◌∷◌, length, refl, sym, ◌∙◌, ap, subst}
use Rattle.oa_disk.specs.promise.Disk.{NothingPending}
use Rattle.oa_disk.specs.Moments.{weakened}
use Rattle.oa_disk.specs.declared.disk.Disk.{Ghosts}
use Rattle.oa_compat.proofs.Kept.{unlocked_fits}
use Rattle.oa_compat.specs.promise.Fits.{fits}
use Rattle.oa_group_commit.proofs.Calling.{session_opened}
use Rattle.oa_group_commit.specs.promise.Groups.{HoldsState, Trace, Exchange}
use Rattle.oa_idl.specs.promise.Trees.{TreeValue}
use Rattle.oa_image.proofs.Numbered.{unlocked_numbers}
use Rattle.oa_image.proofs.TablesWithImages.{same_table}
use Rattle.oa_image.specs.promise.Tables.{FitsBank, is_numbered, reserved_bytes, table_image}
use Rattle.oa_turn.specs.promise.ClientLocks.{ClientLock}
use Rattle.oa_record.specs.promise.Replies.{ReplyValue}
use Rattle.oa_server.specs.promise.ServerMachine.{IsOpened, server_machine}
use Rattle.oa_server.specs.promise.SharedMachine.{end_keeps, opened_shared, shared_machine, ClientReply, Shared}
use Rattle.oa_server.specs.promise.SharedMachine.{SharedTurnOf, TurnsFor, shared}
use Rattle.oa_server.specs.promise.Storages.{OverStore}
use Rattle.oa_server.specs.declared.storage.Storage.{Storage}
use Rattle.oa_server.specs.declared.storage.Storage.TheVariants.{Disk, Memory}
use Rattle.oa_mux.specs.promise.Readers.{Body, Brought, Ends}
use Rattle.oa_store.specs.declared.store.Store.{Store}
use Rattle.oa_table.specs.promise.Tables.{TableValue, unlocked_table}
use Rattle.oa_turn.specs.promise.Beginnings.{CanBegin}
use Rattle.oa_turn.specs.promise.Plans.{HoldsSame}
use Rattle.oa_turn.specs.promise.Turns.{Turn}
use Rattle.oa_typelib.specs.promise.Checked.{IsChecked}
use Rattle.oa_decision.specs.promise.States.{State}
use Rattle.oa_history.specs.promise.Framed.{ServesShared}
use Rattle.oa_history.specs.promise.CrashHistories.{SessionStart}
use Rattle.oa_history.proofs.Found.{opened_again}
use Rattle.oa_history.proofs.CallsOverStore.{IsServing}

-- ---- calls

pub clients_are_served : {D : Type 0} (g : Ghosts D) → IsServing {g = g} shared_machine ServesShared
clients_are_served g size old (Memory new) before bodies replies after is = absurd is
clients_are_served g size old (Disk new) before bodies replies after is = record {
  served = is.served;
  late = λ stopped. let late = is.late stopped in record { told = late.told_is; state = late.state; disk = late.disk; stopped = late.stopped };
}

-- ---- a session is begun

pub sits_over : {D : Type 0} {g : Ghosts D} (disk : D) (state : State) → NothingPending g.contents g.image disk → ((d : D) → IsTrue (g.is_honest d))
    → HoldsState server_machine state (g.contents disk) → (storage : Storage D g)
    → OverStore storage (λ store. IsOpened g disk state.library store state.table) → OverStore storage (λ store. SessionStart server_machine disk store state)
    → OverStore storage (λ store. SessionStart shared_machine disk store (shared state []))
sits_over disk state barrier honest holds (Memory d) found over = absurd over
sits_over {D} {g} disk state barrier honest holds (Disk store) found over =
    let all = over.sits.all in
    record {
      goes_on = over.goes_on;
      sits = session_opened shared_machine {g = g} disk store (shared state [])
          (weakened g.moment g.image_since disk store.disk (g.image disk) (HoldsState shared_machine (shared state []))
          (found.found (honest store.disk)).reads.moments
          (λ c is. subst (λ (l : List ℕ). HoldsState shared_machine (shared state []) l) (sym (barrier c is)) holds))
          (record { shape = all.shape; has = all.has; all = all.all });
    }

pub opened_again_for_many : (one : Shared) → opened_shared (opened_shared one) ≡ opened_shared one
opened_again_for_many one = ap (λ (s : State). shared s []) (opened_again one.state)

-- ---- it can be begun again

abbrev pub CanBeginShared : Shared → Type 0
CanBeginShared one = CanBegin one.state

-- locks are no part of what a server begins with
same_begins : (old new : State) → new.bank ≡ old.bank → HoldsSame old new → CanBegin old → CanBegin new
same_begins old new bank same is = record {
  checked = subst IsChecked (sym same.library) is.checked;
  serves = record {
    fit = sym (unlocked_fits new.library new.table) ∙ ap (λ (l : TreeValue). fits l (unlocked_table new.table)) same.library
        ∙ ap (λ (t : TableValue). fits old.library t) same.table ∙ unlocked_fits old.library old.table ∙ is.serves.fit;
    small = of_image (subst (λ (n : ℕ). FitsBank n old.table) (sym bank) is.serves.small);
  };
  numbered = sym (unlocked_numbers new.table) ∙ ap is_numbered same.table ∙ unlocked_numbers old.table ∙ is.numbered;
}
  where
    image_is : table_image old.table ≡ table_image new.table
    image_is = sym (same_table old.table) ∙ ap table_image (sym same.table) ∙ same_table new.table

    of_image : FitsBank new.bank old.table → FitsBank new.bank new.table
    of_image small = subst (λ (l : List ℕ). length l + reserved_bytes ≤ new.bank) image_is small

module _ (turn_begins : (old new : State) (body : List ℕ) (reply : ReplyValue) → CanBegin old → Turn old body reply new → CanBegin new) where
  pub turn_of : (client : ℕ) (brought : Brought) (told : ClientReply) (old new : Shared) → CanBeginShared old → SharedTurnOf client brought told old new
      → CanBeginShared new
  turn_of client (Body body) told old new is one = by one.turn
    where
      by : TurnsFor client body one.reply old new → CanBeginShared new
      by (inl turn) = turn_begins old.state new.state body one.reply is turn.turn
      by (inr refused) = subst CanBeginShared (sym refused.same) is
  turn_of client (Ends why) told old new is one =
      let keeps = end_keeps client old in subst CanBeginShared (sym one.behind) (same_begins old.state _ keeps.0 keeps.1 is)

  pub groups_begin_for_many : (old new : Shared) (entries : List (Exchange ClientReply)) → CanBeginShared old → Trace shared_machine old entries new
      → CanBeginShared new
  groups_begin_for_many old new [] is r = subst CanBeginShared r is
  groups_begin_for_many old new (asked ∷ entries) is r = groups_begin_for_many r.0 new entries (turn_of r.1.client r.1.brought asked.reply old r.0 is r.1.turn)
      r.2

-- what an opening makes has no locks
pub without_locks : (one : Shared) → opened_shared one ≡ one → one ≡ shared one.state []
without_locks one same = ap (λ (l : List ClientLock). shared one.state l) (sym (ap (λ (s : Shared). s.locks) same))

pub is_over_store : {D : Type 0} {g : Ghosts D} (P : Store D g → Type 0) (storage : Storage D g) → OverStore storage P → OverStore storage (λ store. Unit {0})
is_over_store P (Memory d) is = absurd is
is_over_store P (Disk store) is = tt
