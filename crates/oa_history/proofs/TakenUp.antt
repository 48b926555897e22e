-- An opening of a disk that holds a state, whatever is pending on it.
use Rattle.std.proofs.Common.{◌≡◌, ⊎_elim, ℕ, List, [], Some, IsTrue, length, refl, sym, ◌∙◌, ap, subst, arith}
use Rattle.oa_disk.specs.declared.disk.Disk.{Ghosts}
use Rattle.oa_group_commit.specs.promise.Groups.{AllHoldState, HoldsState}
use Rattle.oa_printer.specs.promise.Canonical.{canonical}
use Rattle.oa_idl.specs.promise.IsTree.{IsTree}
use Rattle.oa_idl.specs.promise.Trees.{TreeValue}
use Rattle.oa_journal.specs.promise.Bank.{body_bytes}
use Rattle.oa_journal.specs.declared.shape.BankFormat.{BankFormat}
use Rattle.oa_journal.specs.declared.shape.BankFormat.TheVariants.{Two}
use Rattle.oa_server.proofs.FoundIsKept.{same_library}
use Rattle.oa_server.proofs.Opened.{can_begin}
use Rattle.oa_server.specs.Laws.{FoundIsKept, OpenedJoins}
use Rattle.oa_turn.specs.promise.Beginnings.{CanBegin}
use Rattle.oa_server.specs.promise.ServerMachine.{IsNotOpened, IsOpened, opened, server_machine}
use Rattle.oa_turn.specs.promise.Events.{held_of}
use Rattle.oa_decision.specs.promise.States.{State, state_of}
use Rattle.oa_server.specs.promise.Storages.{OverStore}
use Rattle.oa_server.specs.Storages.{bank_bytes_of}
use Rattle.oa_server.specs.declared.storage.Storage.{Storage}
use Rattle.oa_server.specs.declared.storage.Storage.TheVariants.{Disk, Memory}
use Rattle.oa_store.specs.promise.Faults.{SpeaksOfContents, RefusalSays}
use Rattle.oa_store.specs.promise.Stores.{IsStoreIn}
use Rattle.oa_store.specs.declared.fault.OpenFault.{OpenFault}
use Rattle.oa_store.specs.declared.store.Store.{Store}
use Rattle.oa_table.specs.promise.Tables.{TableValue}
use Rattle.oa_typelib.specs.promise.Checked.{IsChecked}
use Rattle.oa_history.proofs.Found.{same_state}
use Rattle.oa_history.proofs.Reading.{opened_by_its_own}

module _ {D : Type 0} {g : Ghosts D} (disk : D) (library : TreeValue) (state : State) (honest : (d : D) → IsTrue (g.is_honest d))
    (holds : HoldsState server_machine state (g.contents disk)) (begins : CanBegin state) (is_its : library ≡ state.library) where
  module _ (found_is_kept : FoundIsKept) where
    found_is : (store : Store D g) (table : TableValue) → IsOpened g disk library store table
        → opened state ≡ state_of (body_bytes store.bank.shape) library table
    found_is store table is =
        let found = is.found (honest store.disk) in
        found_is_kept (body_bytes store.bank.shape) library state 0 [] (g.contents disk) table (subst IsChecked (sym is_its) begins.checked) begins.checked
        (record { done = []; later = []; groups_are = refl; enough = omega arith; state = state; run = refl; holds = holds })
        (subst (λ (s : BankFormat). IsStoreIn s (g.contents disk) (canonical library) table) is.shape found.contents) is.unlocked

    pub host_is : (storage : Storage D g) (host : State) → host.library ≡ library → host.bank ≡ bank_bytes_of storage
        → OverStore storage (λ store. IsOpened g disk library store host.table) → host ≡ opened state
    host_is (Memory d) host library_is bank_is is = absurd is
    host_is (Disk store) host library_is bank_is is = same_state host (state_of (body_bytes store.bank.shape) library host.table) bank_is library_is refl
        ∙ sym (found_is store host.table is)

    pub opened_so : (storage : Storage D g) (host : State) → host ≡ opened state → OverStore storage (λ store. IsOpened g disk library store host.table)
        → OverStore storage (λ store. IsOpened g disk (opened state).library store (opened state).table)
    opened_so (Memory d) host same is = absurd is
    opened_so (Disk store) host same is = subst (λ (l : TreeValue). IsOpened g disk l store (opened state).table) is_its
        (subst (λ (t : TableValue). IsOpened g disk library store t) (ap (λ (s : State). s.table) same) is)

    pub all_hold : OpenedJoins g → (storage : Storage D g) (table : TableValue) → OverStore storage (λ store. IsOpened g disk library store table)
        → OverStore storage (λ store. AllHoldState server_machine store (opened state))
    all_hold joins (Memory d) table is = absurd is
    all_hold joins (Disk store) table is = subst (λ (s : State). AllHoldState server_machine store s) (sym (found_is store table is))
        (joins disk library store table is (honest store.disk)).0.all

  -- no refusal is true of it
  module _ (one_tree : (text : List ℕ) (s t : TreeValue) → IsTree text s → IsTree text t → s ≡ t)
      (read : (t : TreeValue) → IsChecked t → IsTree (canonical t) t) (long : length (g.contents disk) ≡ g.size_of disk) where
    pub never_refused : (back : D) (fault : OpenFault) → IsNotOpened g disk back library fault → SpeaksOfContents fault → ⊥
    never_refused back fault is r = ⊎_elim
        (λ says. opened_by_its_own (g.size_of disk) (g.contents disk) (Two state.bank) (canonical state.library)
        (held_of state) long holds state.bank refl fault r
        (subst (λ (l : TreeValue). RefusalSays (Some (canonical l)) (g.size_of disk) (g.contents disk) fault) is_its says))
        (λ unfit. unfit.cannot (can_begin (same_library one_tree read) library (subst IsChecked (sym is_its) begins.checked)
        (g.contents disk) unfit.bank unfit.table unfit.holds state begins holds))
        (is.told (honest back)).says
