-- What a checkpoint and its stop leave of a state.
use Rattle.std.proofs.Common.{◌≡◌, ⊎_elim, ℕ, ◌+◌, ◌*◌, ◌-◌, ◌≤◌, List, length, sym, ◌∙◌, ap, subst, arith}
use Rattle.oa_disk.specs.promise.Disk.{Follows, NothingPending}
use Rattle.oa_disk.specs.Disk.{LeavesStep}
use Rattle.oa_disk.specs.declared.disk.Disk.{Ghosts}
use Rattle.oa_group_commit.specs.promise.Groups.{HoldsState}
use Rattle.oa_printer.specs.promise.Canonical.{canonical}
use Rattle.oa_image.specs.promise.Tables.{table_image}
use Rattle.oa_journal.specs.promise.Bank.{first_gate, WritesNothing, body_bytes}
use Rattle.oa_journal.specs.declared.shape.BankFormat.{BankFormat}
use Rattle.oa_journal.specs.declared.shape.BankFormat.TheVariants.{Two}
use Rattle.oa_turn.specs.promise.Beginnings.{CanBegin}
use Rattle.oa_turn.specs.promise.Events.{held_of}
use Rattle.oa_server.specs.promise.ServerMachine.{opened, server_machine}
use Rattle.oa_decision.specs.promise.States.{State}
use Rattle.oa_store.specs.promise.Stores.{checkpoint_calls, IsStoreAt}
use Rattle.oa_store.specs.Changes.{IsSwitch, IsSwitched}
use Rattle.oa_store.specs.OneStore.{AreSameStores}
use Rattle.oa_store.proofs.OneStore.{one_store}
use Rattle.oa_store.specs.declared.store.Store.{Store}
use Rattle.oa_table.specs.promise.Tables.{TableValue, unlocked_table}

-- the calls of an opening, and of a checkpoint behind it
pub within : (start mid end short gate one other : ℕ) → start ≡ 0 → mid + short ≤ start + (20 + gate) → end ≤ mid + 2 * one → one ≡ other
    → end + short ≤ 20 + gate + 2 * other
within start mid end short gate one other begins opens makes same = omega (arith, begins, opens, makes, same)

-- a store was opened on a disk that holds the state
module _ {D : Type 0} (g : Ghosts D) (disk : D) (state : State) (holds : HoldsState server_machine state (g.contents disk)) (store : Store D g) (text : List ℕ)
    (table : TableValue)
    (contents : IsStoreAt store.bank.shape store.chosen store.bank.gate text table (g.contents disk)) where
  same : AreSameStores store.bank.shape text table (Two state.bank) (canonical state.library) (held_of state)
  same = one_store (g.contents disk) text (canonical state.library) table (held_of state) (store.bank.shape, (store.chosen, store.bank.gate, contents))
      (Two state.bank, holds)

  pub fits : opened state ≡ state → CanBegin state → length (table_image table) + 5242880 ≤ body_bytes store.bank.shape
  fits unlocked begins =
      let table_is : table ≡ state.table = same.table_same ∙ ap (λ (s : State). s.table) unlocked in
      subst (λ (t : TableValue). length (table_image t) + 5242880 ≤ body_bytes store.bank.shape) (sym table_is)
      (subst (λ (s : BankFormat). length (table_image state.table) + 5242880 ≤ body_bytes s) (sym same.shape_same) begins.serves.small)

  pub state_at : (chosen gate : ℕ) (c : List ℕ) → IsStoreAt store.bank.shape chosen gate text table c
      → IsStoreAt (Two state.bank) chosen gate (canonical state.library) (held_of state) c
  state_at chosen gate c is =
      subst (λ (s : BankFormat). IsStoreAt s chosen gate (canonical state.library) (held_of state) c) same.shape_same
      (subst (λ (l : List ℕ). IsStoreAt store.bank.shape chosen gate l (held_of state) c) same.library_same
      (subst (λ (t : TableValue). IsStoreAt store.bank.shape chosen gate text t c) same.table_same is))

  pub next_is : first_gate text table ≡ first_gate (canonical state.library) (held_of state)
  next_is = ap (λ (l : List ℕ). first_gate l table) same.library_same ∙ ap (λ (t : TableValue). first_gate (canonical state.library) t) same.table_same

  pub text_is : text ≡ canonical state.library
  text_is = same.library_same

  pub as_many_calls : checkpoint_calls text table ≡ checkpoint_calls (canonical state.library) (held_of state)
  as_many_calls = ap (λ (l : List ℕ). checkpoint_calls l table) same.library_same
      ∙ ap (λ (t : TableValue). checkpoint_calls (canonical state.library) t) same.table_same

  -- a checkpoint was made of it
  module _ (found : (c : List ℕ) → g.image store.disk c → IsStoreAt store.bank.shape store.chosen store.bank.gate text table c)
      (locks : unlocked_table table ≡ table) (new : Store D g) (next : ℕ) where
    before : (d : List ℕ) → g.image store.disk d → IsStoreAt store.bank.shape store.chosen store.bank.gate text (unlocked_table table) d
    before d is = subst (λ (t : TableValue). IsStoreAt store.bank.shape store.chosen store.bank.gate text t d) (sym locks) (found d is)

    after : (chosen gate : ℕ) (c : List ℕ) → IsStoreAt store.bank.shape chosen gate text (unlocked_table table) c
        → IsStoreAt (Two state.bank) chosen gate (canonical state.library) (held_of state) c
    after chosen gate c is = state_at chosen gate c (subst (λ (t : TableValue). IsStoreAt store.bank.shape chosen gate text t c) locks is)

    pub moved : Follows (IsSwitched store.bank.shape store.chosen store.bank.gate store.bank.shape next text (unlocked_table table)) (g.image store.disk)
        (g.image new.disk) → (c : List ℕ) → g.image new.disk c
        → IsStoreAt (Two state.bank) (1 - store.chosen) next (canonical state.library) (held_of state) c
    moved follows c is = let step = follows c is in after (1 - store.chosen) next c (step.2 (before step.0 step.1))

    pub still_holds : NothingPending g.contents g.image disk → WritesNothing g.image g.moment g.image_since disk store.disk
        → LeavesStep g.moment g.image_since g.image store.disk new.disk
        (IsSwitch store.bank.shape store.chosen store.bank.gate store.bank.shape next text (unlocked_table table))
        → (c : List ℕ) → g.image_since new.disk (g.moment disk) c → HoldsState server_machine state c
    still_holds barrier reads steps c since = ⊎_elim
        (λ was. subst (λ (l : List ℕ). HoldsState server_machine state l) (sym (barrier c (reads.moments.each c was))) holds)
        (λ step. ⊎_elim
        (λ stays. (store.chosen, store.bank.gate, after store.chosen store.bank.gate c stays))
        (λ moves. (1 - store.chosen, next, after (1 - store.chosen) next c moves))
        (step.2 (before step.0 step.1)))
        (steps.before (g.moment disk) c reads.moments.later since)
