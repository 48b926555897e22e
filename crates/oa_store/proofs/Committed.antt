-- A group is committed, or a checkpoint made.
use Rattle.std.proofs.lemmas.List.{append-nil}
use Rattle.std.specs.List.{AllByRecursion, flat_map}
use Rattle.std.proofs.Common.{◌≡◌, ◌⊎◌, ℕ, ◌+◌, List, [], ◌∷◌, length, Result, Ok, refl, sym, ◌∙◌, ap, inl, inr, ⊎_elim, arith}
use Rattle.std.proofs.Common.{length-append, subst, IfOk, IsTrue}
use Rattle.oa_disk.specs.promise.Disk.{CrashInvariant}
use Rattle.oa_disk.specs.Moments.{started}
use Rattle.oa_disk.specs.declared.disk.Disk.{Ghosts}
use Rattle.oa_image.specs.promise.Events.{event, event_image}
use Rattle.oa_image.proofs.Lengths.{event_bytes}
use Rattle.oa_image.proofs.Unlocked.{brings_none}
use Rattle.oa_journal.specs.promise.Bank.{Replays, applied_all}
use Rattle.oa_journal.specs.declared.shape.BankFormat.{BankFormat}
use Rattle.oa_store.specs.Changes.{IsCommit, IsCommitted}
use Rattle.oa_store.specs.promise.Stores.{IsStoreAt, IsStoreIn}
use Rattle.oa_store.specs.declared.store.Store.{Store}
use Rattle.oa_table.proofs.Unlocked.{event_follows}
use Rattle.oa_table.specs.promise.Events.{applied}
use Rattle.oa_table.specs.promise.Tables.{TableValue, unlocked_table}
use Rattle.oa_table.specs.declared.event.Event.{Event}
use Rattle.oa_table.specs.declared.fault.TableFault.{TableFault}
use Rattle.oa_store.specs.promise.Holding.{PreservesCommitted, EachIs}

module _ (library : List ℕ) (before after : TableValue) (shape : BankFormat) (chosen gate : ℕ) (group : List ℕ) (image : List ℕ → Type 0)
    (makes : Replays group before after) (each : EachIs image shape chosen gate library before) where
  -- while a group is committed, an image holds the table with it or without it
  pub meanwhile : (c : List ℕ) → ((d : List ℕ) × image d × IsCommit shape chosen gate group d c)
      → IsStoreIn shape c library before ⊎ IsStoreIn shape c library after
  meanwhile c step = ⊎_elim (λ without. inl (chosen, gate, without)) (λ with_it. inr (chosen, gate + (5 + length group), with_it))
      (step.2 library before after (each step.0 step.1) makes)

  -- and then the one with it
  pub at_last : (c : List ℕ) → ((d : List ℕ) × image d × IsCommitted shape chosen gate group d c)
      → IsStoreAt shape chosen (gate + (5 + length group)) library after c
  at_last c step = step.2 library before after (each step.0 step.1) makes

-- no call
pub nothing_called : {D : Type 0} (moment : D → ℕ) (image_since : D → ℕ → List ℕ → Type 0) (disk : D) (image : List ℕ → Type 0) (shape : BankFormat)
    (chosen gate : ℕ) (library : List ℕ) (held : TableValue)
    → ((c : List ℕ) → image_since disk (moment disk) c → image c) → EachIs image shape chosen gate library held
    → CrashInvariant moment image_since disk disk (λ c. IsStoreIn shape c library held)
nothing_called moment image_since disk image shape chosen gate library held only each = started moment image_since disk (λ c. IsStoreIn shape c library held)
    (λ c left. (chosen, gate, each c (only c left)))

-- so what was committed stands
pub still_carried : {D : Type 0} {g : Ghosts D} (only : (d : D) (c : List ℕ) → IsTrue (g.is_honest d) → g.image_since d (g.moment d) c → g.image d c)
    (batch : List ℕ) (held : TableValue) (store : Store D g) → PreservesCommitted batch held store store
still_carried {D} {g} only batch held store = record {
  any_moment = λ committed first all. nothing_called g.moment g.image_since store.disk (g.image store.disk) store.bank.shape store.chosen store.bank.gate
      store.library.items committed (λ c left. only store.disk c all.0 left) all.1;
  each = λ going committed first all. all;
  library = refl;
  once = λ honest. omega arith;
}

-- no bytes make no change
pub no_change : (group : List ℕ) (before after : TableValue) → length group ≡ 0 → Replays group before after → before ≡ after
no_change group before after none replays = by replays.events replays.are.are (sym (ap length replays.are.whole) ∙ none) replays.makes
  where
    same : (x y : Result TableValue TableFault) → (a b : TableValue) → x ≡ Ok a → y ≡ Ok b → x ≡ y → a ≡ b
    same x y a b is_a is_b e = cc

    by : (es : List Event) → AllByRecursion event.Is es → length (flat_map event.image es) ≡ 0 → applied_all es before ≡ Ok after → before ≡ after
    by [] are empty makes = same (Ok before) (Ok after) before after refl refl makes
    by (e ∷ es) are empty makes = absurd (omega (arith, empty, length-append (event.image e) (flat_map event.image es), event_bytes e are.0))

-- an event makes of what images hold of a table what they hold of the table after it
pub one_event : (e : Event) (table after : TableValue) → event.Is e → applied e table ≡ Ok after
    → Replays (event_image e) (unlocked_table table) (unlocked_table after)
one_event e table after is makes =
    let follows : applied e (unlocked_table table) ≡ Ok (unlocked_table after) =
    subst (λ (r : Result TableValue TableFault). IfOk r (λ new. applied e (unlocked_table table) ≡ Ok (unlocked_table new))) makes
    (event_follows e table (brings_none e is)) in
    record {
      events = e ∷ [];
      are = record { are = (is, tt); whole = sym (append-nil (event_image e)) };
      makes = rw follows refl;
    }
