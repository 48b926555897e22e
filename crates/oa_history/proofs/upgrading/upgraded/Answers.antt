use Rattle.std.proofs.Common.{Err, ◌≡◌, ℕ, ◌+◌, ◌*◌, ◌≤◌, List, length, min, refl, sym, ap, subst, arith}
use Rattle.std.proofs.lemmas.Result.{err_from_is_err_and}
use Rattle.oa_disk.specs.promise.Memory.{IsTornAt, memory_contents, memory_history, moments_of}
use Rattle.oa_disk.specs.Memory.{memory_image_since}
use Rattle.oa_disk.specs.Replaying.{contents_size, only_now, since_falls}
use Rattle.oa_printer.specs.promise.Canonical.{canonical}
use Rattle.oa_image.specs.promise.Tables.{FitsBank}
use Rattle.oa_journal.specs.declared.shape.BankFormat.TheVariants.{One, Two}
use Rattle.oa_turn.proofs.Texts.{is_read}
use Rattle.oa_turn.specs.promise.Events.{held_of}
use Rattle.oa_decision.specs.promise.States.{State}
use Rattle.oa_store.proofs.OneStore.{one_store}
use Rattle.oa_store.specs.promise.Stores.{checkpoint_calls, IsStoreAt, IsStoreIn}
use Rattle.oa_store.specs.promise.Changes.{IsUpgrade}
use Rattle.oa_store.specs.promise.Faults.{CanBeBrought}
use Rattle.oa_table.specs.promise.Tables.{TableValue}
use Rattle.oa_history.proofs.Unmade.{unbrought}
use Rattle.oa_history.proofs.upgrading.upgraded.Goals as goal

pub returns-clause-upgraded : goal.returns-clause-upgraded
returns-clause-upgraded c =
    let old = c.args.disk in
    let disk = c.upgrade.new.disk in
    let bank = c.args.bank in
    let found = memory_contents old in
    let image = memory_contents c.in_ok-left.left in
    let from : moments_of old ≤ c.min.result = omega (arith, c.requires.fresh.start) in
    let since = since_falls (memory_history disk) (moments_of old) c.min.result image from c.in_ok-left.ensures.left in
    let step = (c.in_default.ensures.any_moment refl).each image since in
    let brought = c.in_default.ensures.done refl in
    let calls = c.in_default.ensures.calls refl in
    let same = one_store found calls.0 brought.was.library calls.1 brought.was.table (One, (calls.2, calls.3, calls.4)) (One, brought.was.store) in
    let made : moments_of disk + length calls.0 ≤ 16 + calls.3 + 2 * checkpoint_calls calls.0 calls.1 = omega (arith, c.requires.fresh.start, calls.5) in
    record {
      either = subst (λ (l : List ℕ). IsUpgrade bank l image) (c.requires.fresh.barrier step.0 step.1) step.2;
      torn = subst (λ (n : ℕ). IsTornAt disk c.args.stop.tear (min c.args.stop.moment n) image) c.moments.ensures
          (subst (λ (n : ℕ). IsTornAt disk c.args.stop.tear n image) c.min.ensures c.in_ok-left.ensures.torn);
      brought = brought;
      chosen = calls.2;
      gate = calls.3;
      was = subst (λ (l : List ℕ). IsStoreAt One calls.2 calls.3 l brought.was.table found) same.library_same
          (subst (λ (t : TableValue). IsStoreAt One calls.2 calls.3 calls.0 t found) same.table_same calls.4);
      calls = subst (λ (t : TableValue). moments_of disk + length brought.was.library ≤ 16 + calls.3 + 2 * checkpoint_calls brought.was.library t)
          same.table_same
          (subst (λ (l : List ℕ). moments_of disk + length l ≤ 16 + calls.3 + 2 * checkpoint_calls l calls.1) same.library_same made);
    }

pub returns-clause-kept : goal.returns-clause-kept
returns-clause-kept c behind state become =
    let disk = c.upgrade.new.disk in
    let image = memory_contents c.in_ok-left.left in
    let last : c.min.result ≡ moments_of disk = omega (arith, c.min.ensures, c.moments.ensures, behind) in
    let left = subst (λ (n : ℕ). memory_image_since disk n image) last c.in_ok-left.ensures.left in
    let brought = c.in_default.ensures.done refl in
    let is = brought.each image (only_now (memory_history disk) image left) in
    let same = one_store (memory_contents c.args.disk) brought.was.library (canonical state.library) brought.was.table (held_of state) (One, brought.was.store)
    (One, become.was) in
    record {
      holds = subst (λ (n : ℕ). IsStoreIn (Two n) image (canonical state.library) (held_of state)) become.banks
          (subst (λ (l : List ℕ). IsStoreIn (Two c.args.bank) image l (held_of state)) same.library_same
          (subst (λ (t : TableValue). IsStoreIn (Two c.args.bank) image brought.was.library t) same.table_same is));
      begins = become.begins;
      unlocked = become.unlocked;
    }

pub returns-in-Err-clause-wanting : goal.returns-in-Err-clause-wanting
returns-in-Err-clause-wanting c state become =
    let disk = c.args.disk in
    let bank = c.args.bank in
    let size = disk.first.size in
    let found = memory_contents disk in
    let law = c.what_can_be_brought_is_not_refused.ensures in
    let held = ap (λ (s : State). s.table) become.unlocked in
    let can : CanBeBrought bank found = record {
      library = canonical state.library;
      table = held_of state;
      store = become.was;
      short = (is_read c.marked_is_read.ensures state.library become.begins.checked).short;
      fits = subst (λ (n : ℕ). FitsBank n (held_of state)) (sym become.banks)
          (subst (λ (t : TableValue). FitsBank state.bank t) (sym held) become.begins.serves.small);
    } in
    unbrought bank size found c.in-Err.fault (λ is. c.in-Err.ensures.small.exactly.0 (ap Err is))
    (law.none bank size found (contents_size size (memory_history disk) disk.whole) can) (law.new bank size found can)
    (λ place. law.damaged bank size place found can) (c.in-Err.ensures.refused.says refl)

pub returns-in_err-left-clause-wanting : goal.returns-in_err-left-clause-wanting
returns-in_err-left-clause-wanting c = let p = err_from_is_err_and c.from_residual.result c.from_residual.ensures.1 in rw (p.1, p.2) (λ state become. tt)
