use Rattle.std.proofs.Common.{◌≡◌, ℕ, List, Err, ap, subst, arith}
use Rattle.std.proofs.lemmas.Result.{err_from_is_err_and}
use Rattle.oa_journal.specs.promise.Bank.{HasHead}
use Rattle.oa_journal.specs.declared.bank.BankFault.{BankFault}
use Rattle.oa_journal.specs.declared.shape.BankFormat.{BankFormat}
use Rattle.oa_journal.specs.declared.shape.BankFormat.TheVariants.{One}
use Rattle.oa_journal.specs.Damages.{IsDamagedBank}
use Rattle.oa_store.specs.declared.fault.FindFault.{FindFault}
use Rattle.oa_store.specs.Faults.{HasOldShape, IsCausedUpgrade, upgrade_of_bank}
use Rattle.oa_store.specs.promise.Stores.{body_place, head_place}
use Rattle.oa_store.proofs.Opened.{spoilt}
use Rattle.oa_store.proofs.Upgraded.{any_size_early, any_size_late, caused_early, caused_late, read_tells, says_early, says_spoilt, tells_early}
use Rattle.oa_store.proofs.upgrading.find_old.Goals as goal

pub returns-in_err-chosen-clause-refused : goal.returns-in_err-chosen-clause-refused
returns-in_err-chosen-clause-refused g c =
    let p = err_from_is_err_and c.from_residual.result c.from_residual.ensures.1 in
    let fault = c.in_err-chosen.field-0.0 in
    let refused = c.in_err-chosen.ensures.refused in
    rw (p.1, p.2) (λ bank. record {
      says = λ h. says_early bank (g.D.Disk.size_of c.args.disk.now) (g.D.Disk.contents c.args.disk.now) fault
          (λ is. c.in_err-chosen.ensures.memory (ap (λ (x : FindFault). Err x) is)) (refused.says h);
      any_size = any_size_early fault;
      cause = caused_early _ _ fault refused.cause;
      tells = λ h. tells_early _ _ _ fault (refused.tells h);
      calls = λ h. omega (arith, c.find_head.ensures.calls h);
    })

pub returns-in_err-library-clause-refused : goal.returns-in_err-library-clause-refused
returns-in_err-library-clause-refused g c =
    let p = err_from_is_err_and c.from_residual-in_err-library.result c.from_residual-in_err-library.ensures.1 in
    let fault = c.in_err-library.field-0.0 in
    let after = c.in_err-library.ensures.after in
    rw (p.1, p.2) (λ bank. record {
      says = λ h.
          let contents = g.D.Disk.contents c.args.disk.now in
          let h1 = after.calls.honest h in
          let found = c.in_ok-chosen.ensures.found.found h1 in
          let stay = c.in_ok-chosen.ensures.found.contents h1 in
          let chosen = c.in_ok-chosen.chosen in
          let head = c.in_ok-chosen.head in
          let one : head.shape ≡ One = cc in
          says_spoilt bank (g.D.Disk.size_of c.args.disk.now) contents fault
          (record {
            chosen = chosen;
            head = found.0;
            library = head.library;
            snapshot = head.snapshot;
            has = subst (λ (s : BankFormat). HasHead s (head_place chosen) contents head.library head.snapshot) one found.1;
          })
          (λ at is. spoilt HasOldShape contents chosen head.shape head.library head.snapshot at found.0 found.1 one
          (subst (λ (d : List ℕ). IsDamagedBank head.shape (head_place chosen) (body_place head.shape chosen) d at) stay
          (c.in_err-library.ensures.damaged at (ap (λ (x : BankFault). Err x) is) h)));
      any_size = any_size_late fault;
      cause = subst (λ (n : ℕ). IsCausedUpgrade n (g.D.Disk.failures_of c.look.new.disk) (upgrade_of_bank fault)) c.in_ok-chosen.ensures.after.unfailed
          (caused_late _ _ fault after.cause);
      tells = λ h. read_tells _ _ _ fault (λ why is. after.device why (ap (λ (x : BankFault). Err x) is))
          (λ image is. c.in_ok-chosen.ensures.found.synced (after.calls.honest h) image ((after.reads h).writes_nothing.images image is));
      calls = λ h. omega (arith, c.find_head.ensures.calls (after.calls.honest h), c.find_head.ensures.after.size, after.most h);
    })
