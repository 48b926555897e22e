use Rattle.std.proofs.Common.{ℕ, ◌+◌, ◌*◌, ◌≤◌, ◌-◌, List, length, min, Err, sym, subst, arith, refl}
use Rattle.std.proofs.lemmas.Result.{err_from_is_err_and}
use Rattle.oa_disk.specs.promise.Memory.{IsTornAt, memory_contents, memory_history, memory_image, moments_of}
use Rattle.oa_disk.specs.Memory.{memory_image_since}
use Rattle.oa_disk.specs.Replaying.{since_falls}
use Rattle.oa_disk.specs.declared.memory.MemoryDisk.{MemoryDisk}
use Rattle.oa_printer.specs.promise.Canonical.{canonical}
use Rattle.oa_journal.specs.promise.Bank.{first_gate}
use Rattle.oa_journal.specs.declared.shape.BankFormat.TheVariants.{Two}
use Rattle.oa_turn.specs.promise.Events.{held_of}
use Rattle.oa_store.specs.promise.Stores.{checkpoint_calls, IsStoreAt}
use Rattle.oa_history.proofs.Switched.{as_many_calls, moved, next_is, state_at, still_holds, text_is, within}
use Rattle.oa_history.proofs.Unmade.{write_failed}
use Rattle.oa_history.proofs.checkpointing.checkpointed.Goals as goal

pub returns-clause-checkpointed : goal.returns-clause-checkpointed
returns-clause-checkpointed c state kept =
    let disk = c.args.disk in
    let store = c.in_ok-store.store in
    let table = c.in_ok-store.table in
    let text = store.library.items in
    let next = first_gate text table in
    let opened = c.in_ok-store.ensures.opened in
    let new = c.checkpoint.new.self in
    let end = c.into_disk-disk.result in
    let image = memory_contents c.in_ok-left.left in
    let from : moments_of disk ≤ c.min.result = omega (arith, c.requires.start) in
    let since = subst (λ (d : MemoryDisk). memory_image_since d (moments_of disk) image) c.into_disk-disk.ensures
    (since_falls (memory_history end) (moments_of disk) c.min.result image from c.in_ok-left.ensures.left) in
    let holds = still_holds _ disk state kept.holds store text table opened.contents opened.found opened.unlocked new next c.requires.barrier opened.reads
    (c.in_default.ensures.leaves.any_moment refl) image since in
    let torn = subst (λ (n : ℕ). IsTornAt end c.args.stop.tear (min c.args.stop.moment n) image) c.moments.ensures
    (subst (λ (n : ℕ). IsTornAt end c.args.stop.tear n image) c.min.ensures c.in_ok-left.ensures.torn) in (
      record {
        chosen = store.chosen;
        gate = store.bank.gate;
        was = state_at _ disk state kept.holds store text table opened.contents store.chosen store.bank.gate (memory_contents disk) opened.contents;
        is = λ l here. subst (λ (n : ℕ). IsStoreAt (Two state.bank) (1 - store.chosen) n (canonical state.library) (held_of state) l)
            (next_is _ disk state kept.holds store text table opened.contents)
            (moved _ disk state kept.holds store text table opened.contents opened.found opened.unlocked new next (c.in_default.ensures.leaves.done refl) l
            (subst (λ (d : MemoryDisk). memory_image d l) c.into_disk-disk.ensures here));
        torn = torn;
        calls = subst (λ (l : List ℕ). moments_of end + length l ≤ 20 + store.bank.gate + 2 * checkpoint_calls (canonical state.library) (held_of state))
            (text_is _ disk state kept.holds store text table opened.contents)
            (subst (λ (d : MemoryDisk). moments_of d + length text ≤ 20 + store.bank.gate + 2 * checkpoint_calls (canonical state.library) (held_of state))
            (sym c.into_disk-disk.ensures)
            (within (moments_of disk) (moments_of store.disk) (moments_of new.disk) (length text) store.bank.gate (checkpoint_calls text table)
            (checkpoint_calls (canonical state.library) (held_of state))
            c.requires.start (opened.calls refl) (c.in_default.ensures.calls refl) (as_many_calls _ disk state kept.holds store text table opened.contents)));
        holds = holds;
      },
      record { holds = holds; begins = kept.begins; unlocked = kept.unlocked },
    )

pub returns-in-Err-clause-wanting : goal.returns-in-Err-clause-wanting
returns-in-Err-clause-wanting c state kept =
    let stops = c.in-Err.ensures.stops in
    write_failed c.in_ok-store.store.stopped (Err c.in-Err.fault) c.in-Err.fault refl c.in_ok-store.ensures.goes_on stops.stopped.0 stops.fault

pub returns-in_err-left-clause-wanting : goal.returns-in_err-left-clause-wanting
returns-in_err-left-clause-wanting c = let p = err_from_is_err_and c.from_residual-in_err-left.result c.from_residual-in_err-left.ensures.1 in
    rw (p.1, p.2) (λ state kept. tt)
