use Rattle.std.proofs.Common.{List, ℕ, ◌+◌, ◌≤◌, length, true≢false, refl, sym, ◌∙◌, ap, subst}
use Rattle.std.proofs.lemmas.Result.{err_from_is_err_and}
use Rattle.oa_disk.specs.promise.Memory.{memory_contents, moments_of}
use Rattle.oa_printer.specs.promise.Canonical.{canonical}
use Rattle.oa_image.specs.promise.Tables.{FitsBank}
use Rattle.oa_journal.specs.declared.shape.BankFormat.TheVariants.{Two}
use Rattle.oa_turn.specs.promise.Events.{held_of}
use Rattle.oa_store.specs.promise.Stores.{IsStoreAt, IsStoreIn}
use Rattle.oa_history.proofs.Switched.{fits}
use Rattle.oa_history.proofs.checkpointing.opened_store.Goals as goal

pub returns-in_err-library-clause-wanting : goal.returns-in_err-library-clause-wanting
returns-in_err-library-clause-wanting c = let p = err_from_is_err_and c.from_residual.result c.from_residual.ensures.1 in
    rw (p.1, p.2) (λ state kept. c.in_err-library.ensures.wanting state kept.holds kept.begins.checked)

pub returns-in-Err-clause-wanting : goal.returns-in-Err-clause-wanting
returns-in-Err-clause-wanting c state kept r =
    let text = c.text.ensures.text ∙ ap canonical (c.in_ok-library.ensures.kept state kept.holds kept.begins.checked) in
    c.in-Err.ensures.refused.refused r refl (held_of state)
    (state.bank, subst (λ (l : List ℕ). IsStoreIn (Two state.bank) (memory_contents c.args.disk) l (held_of state)) (sym text) kept.holds)

pub returns-then-not-fits_bank-clause-wanting : goal.returns-then-not-fits_bank-clause-wanting
returns-then-not-fits_bank-clause-wanting c state kept r =
    let store = c.in-Ok.found.0 in
    let table = c.in-Ok.found.1 in
    let room = fits _ c.args.disk state kept.holds store c.text.result.now table (c.in-Ok.ensures.found.contents refl) kept.unlocked kept.begins in
    absurd (true≢false (sym (c.fits_bank.ensures.1 (subst (λ (n : ℕ). FitsBank n table) (sym c.bank_size.ensures) room)) ∙ c.if-not-fits_bank.true))

pub returns-clause-opened : goal.returns-clause-opened
returns-clause-opened c =
    let store = c.in-Ok.found.0 in
    let table = c.in-Ok.found.1 in
    let starts = c.in-Ok.ensures.starts in
    record {
      contents = subst (λ (l : List ℕ). IsStoreAt store.bank.shape store.chosen store.bank.gate l table (memory_contents c.args.disk)) (sym starts.has)
          (c.in-Ok.ensures.found.contents refl);
      found = λ image is. subst (λ (l : List ℕ). IsStoreAt store.bank.shape store.chosen store.bank.gate l table image) (sym starts.has)
          (c.in-Ok.ensures.found.found refl image is);
      unlocked = starts.unlocked;
      numbered = starts.numbered;
      reads = c.in-Ok.ensures.reads refl;
      calls = λ honest. subst (λ (l : List ℕ). moments_of store.disk + length l ≤ moments_of c.args.disk + (20 + store.bank.gate)) (sym starts.has)
          (c.in-Ok.ensures.found.calls honest);
    }
