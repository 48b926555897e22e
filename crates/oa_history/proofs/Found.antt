-- What an opening of a disk that holds a state makes.
use Rattle.std.proofs.Common.{◌≡◌, inl, ⊎_elim, ℕ, List, IsTrue, [], refl, sym, ◌∙◌, ap, subst}
use Rattle.oa_disk.specs.promise.Disk.{NothingPending}
use Rattle.oa_disk.specs.declared.disk.Disk.{Ghosts}
use Rattle.oa_group_commit.specs.promise.Groups.{HoldsState, OpenSession}
use Rattle.oa_printer.specs.promise.Canonical.{canonical}
use Rattle.oa_idl.specs.promise.Trees.{TreeValue}
use Rattle.oa_journal.specs.promise.Bank.{body_bytes}
use Rattle.oa_server.specs.Laws.{OpenedBegins}
use Rattle.oa_turn.specs.promise.Beginnings.{CanBegin}
use Rattle.oa_server.specs.promise.ServerMachine.{FindsState, IsNotOpened, IsOpened, opened, server_machine}
use Rattle.oa_decision.specs.promise.States.{State, state_of}
use Rattle.oa_server.specs.promise.Storages.{OverStore}
use Rattle.oa_server.specs.Storages.{bank_bytes_of}
use Rattle.oa_server.specs.declared.storage.Storage.{Storage}
use Rattle.oa_server.specs.declared.storage.Storage.TheVariants.{Disk, Memory}
use Rattle.oa_store.specs.promise.Faults.{SpeaksOfContents}
use Rattle.oa_store.specs.declared.fault.OpenFault.{OpenFault}
use Rattle.oa_store.specs.declared.store.Store.{Store}
use Rattle.oa_table.specs.promise.Tables.{TableValue}
use Rattle.oa_history.specs.promise.CrashHistories.{SessionStart}

pub same_state : (a b : State) → a.bank ≡ b.bank → a.library ≡ b.library → a.table ≡ b.table → a ≡ b
same_state a b bank library table =
    ap (λ (n : ℕ). state_of n a.library a.table) bank
    ∙ ap (λ (l : TreeValue). state_of b.bank l a.table) library
    ∙ ap (λ (t : TableValue). state_of b.bank b.library t) table

-- locks end once
pub opened_again : (state : State) → opened (opened state) ≡ opened state
opened_again state = ap (λ (t : TableValue). record state { table = t }) (server_machine.reopens state).0

-- what was opened with the library and the table of a host, told by the host's state
pub begun_on : {D : Type 0} {g : Ghosts D} (disk : D) (library : TreeValue) (state host : State) (storage : Storage D g) → host.library ≡ library
    → host ≡ state → OverStore storage (λ store. IsOpened g disk library store host.table)
    → OverStore storage (λ store. IsOpened g disk state.library store state.table)
begun_on {g = g} disk library state host storage library_is same is =
    subst (λ (s : State). OverStore storage (λ store. IsOpened g disk s.library store s.table)) same
    (subst (λ (l : TreeValue). OverStore storage (λ store. IsOpened g disk l store host.table)) (sym library_is) is)

module _ {D : Type 0} {g : Ghosts D} (disk : D) (library : TreeValue) (state : State) (barrier : NothingPending g.contents g.image disk)
    (honest : (d : D) → IsTrue (g.is_honest d))
    (holds : HoldsState server_machine state (g.contents disk)) (unlocked : opened state ≡ state) (is_its : library ≡ state.library) where
  found_is : (store : Store D g) (table : TableValue) → IsOpened g disk library store table → state_of (body_bytes store.bank.shape) library table ≡ state
  found_is store table is =
      let finds : FindsState (body_bytes store.bank.shape) library table state =
      ⊎_elim (λ one. one) (λ two. two) ((is.found (honest store.disk)).one state state
      (λ c image. inl (subst (λ (l : List ℕ). HoldsState server_machine state l) (sym (barrier c image)) holds))) in
      same_state (state_of (body_bytes store.bank.shape) library table) state finds.bank_is is_its (finds.table_is ∙ ap (λ (s : State). s.table) unlocked)

  pub sits : OpenedBegins server_machine (λ s. s) g → (storage : Storage D g) (table : TableValue)
      → OverStore storage (λ store. IsOpened g disk library store table) → OverStore storage (λ store. SessionStart server_machine disk store state)
  sits begins (Memory d) table is = absurd is
  sits begins (Disk store) table is = record {
    goes_on = is.goes_on;
    sits = subst (λ (s : State). OpenSession server_machine disk store s s []) (found_is store table is)
        (begins disk library store table is (honest store.disk) barrier);
  }

  pub serves : (storage : Storage D g) (host : State) → host.library ≡ library → host.bank ≡ bank_bytes_of storage
      → OverStore storage (λ store. IsOpened g disk library store host.table) → host ≡ state
  serves (Memory d) host library_is bank_is is = absurd is
  serves (Disk store) host library_is bank_is is = same_state host (state_of (body_bytes store.bank.shape) library host.table) bank_is library_is refl
      ∙ found_is store host.table is

  -- no refusal is true of it
  pub never_refused : CanBegin state → (back : D) (fault : OpenFault) → IsNotOpened g disk back library fault → SpeaksOfContents fault → ⊥
  never_refused begins back fault is refusal =
      let why =
      (is.told (honest back)).late refusal state state
      (λ c image. inl (subst (λ (l : List ℕ). HoldsState server_machine state l) (sym (barrier c image)) holds)) begins begins in
      let text : canonical state.library ≡ canonical library = ap canonical (sym is_its) in
      ⊎_elim (λ one. absurd (one.1 text)) (λ two. absurd (two.1 text)) why.1
