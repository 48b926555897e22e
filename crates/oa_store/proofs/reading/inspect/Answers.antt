use Rattle.std.proofs.Common.{None, ◌+◌, List, ℕ, Err, ap, subst, arith, rules}
use Rattle.std.proofs.lemmas.Result.{err_from_is_err_and}
use Rattle.oa_journal.specs.promise.Bank.{from_place, IsBank}
use Rattle.oa_journal.specs.Damages.{IsDamagedBank}
use Rattle.oa_journal.specs.declared.bank.BankFault.{BankFault}
use Rattle.oa_store.specs.Faults.{of_bank}
use Rattle.oa_store.specs.promise.Faults.{HasWanted, IsCausedOpenFault}
use Rattle.oa_store.specs.promise.Stores.{body_place, head_place}
use Rattle.oa_store.proofs.Opened.{bank_caused, says_first, says_late, spoilt, tells_late, until_body, until_late}
use Rattle.oa_store.proofs.reading.inspect.Goals as goal

pub returns-in_err-chosen-clause-refused : goal.returns-in_err-chosen-clause-refused
returns-in_err-chosen-clause-refused g c =
    let p = err_from_is_err_and c.from_residual.result c.from_residual.ensures.1 in
    rw (p.1, p.2) (record {
      says = λ h. says_first None (g.D.Disk.size_of c.args.disk.now) (g.D.Disk.contents c.args.disk.now) c.in_err-chosen.field-0.0
          (c.in_err-chosen.ensures.refused.says h);
      early = search rules;
      any_library = search rules;
      any_format = search rules;
      cause = search rules;
      tells = search rules;
      calls = λ h. until_body (20 + g.D.Disk.size_of c.args.disk.now) _ _ c.in_err-chosen.field-0.0 (omega arith) (c.in_err-chosen.ensures.until h);
    })

pub returns-in_err-library-clause-refused : goal.returns-in_err-library-clause-refused
returns-in_err-library-clause-refused g c =
    let p = err_from_is_err_and c.from_residual-in_err-library.result c.from_residual-in_err-library.ensures.1 in
    let fault = c.in_err-library.field-0.0 in
    rw (p.1, p.2) (record {
      early = search rules;
      any_library = search rules;
      any_format = search rules;
      calls = λ h. until_late (20 + g.D.Disk.size_of c.args.disk.now) _ _ fault
          (omega (arith, c.find_head.ensures.calls (c.look.ensures.after.calls.honest h), c.find_head.ensures.after.size, c.look.ensures.after.most h));
      cause = subst (λ (n : ℕ). IsCausedOpenFault n (g.D.Disk.failures_of c.look.new.disk) (of_bank fault)) c.in_ok-chosen.ensures.after.unfailed
          (bank_caused _ _ fault c.in_err-library.ensures.after.cause);
      tells = λ h.
          let h1 = c.look.ensures.after.calls.honest h in
          tells_late (g.D.Disk.contents c.args.disk.now) (g.D.Disk.image c.args.disk.now) (g.D.Disk.image c.look.new.disk) fault
          (λ why is. c.in_err-library.ensures.after.device why (ap (λ (x : BankFault). Err x) is))
          (λ image is. c.in_ok-chosen.ensures.found.synced h1 image ((c.look.ensures.after.reads h).writes_nothing.images image is));
      says = λ h.
          let size = g.D.Disk.size_of c.args.disk.now in
          let contents = g.D.Disk.contents c.args.disk.now in
          let h1 = c.look.ensures.after.calls.honest h in
          let found = c.in_ok-chosen.ensures.found.found h1 in
          let stay = c.in_ok-chosen.ensures.found.contents h1 in
          let chosen = c.in_ok-chosen.chosen in
          let head = c.in_ok-chosen.head in
          says_late None size contents fault (λ at is. spoilt (HasWanted None) contents chosen head.shape head.library head.snapshot at found.0 found.1 tt
          (subst (λ (d : List ℕ). IsDamagedBank head.shape (head_place chosen) (body_place head.shape chosen) d at) stay
          (c.in_err-library.ensures.damaged at (ap (λ (x : BankFault). Err x) is) h)));
    })

pub returns-clause-found : goal.returns-clause-found
returns-clause-found g c = record {
  found = search rules;
  contents = search rules;
  numbered = search rules;
  unlocked = search rules;
  calls = λ h.
      let h1 = c.look.ensures.after.calls.honest h in
      let found = c.in_ok-chosen.ensures.found.found h1 in
      let stay = c.in_ok-chosen.ensures.found.contents h1 in
      let chosen = c.in_ok-chosen.chosen in
      let shape = c.in_ok-chosen.head.shape in
      let gate = c.in_ok-library.field-0-2.gate in
      let bank =
      subst (λ (d : List ℕ). IsBank shape (from_place (head_place chosen) d) (from_place (body_place shape chosen) d) c.in_ok-library.library.items
      c.in_ok-library.table gate) stay (c.in_ok-library.ensures.found.found h) in (
        (shape, (chosen, gate, record { head = found.0; room = found.1.room; bank = bank })),
        omega (arith, c.in_ok-chosen.ensures.calls h1, c.in_ok-library.ensures.found.calls h),
      );
}
