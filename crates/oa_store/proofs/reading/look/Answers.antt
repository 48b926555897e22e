use Rattle.std.proofs.Common.{◌≡◌, ℕ, Err, ap, subst}
use Rattle.std.proofs.lemmas.Result.{err_from_is_err_and}
use Rattle.oa_journal.specs.Damages.{IsDamagedBank}
use Rattle.oa_journal.specs.declared.bank.BankFault.{BankFault}
use Rattle.oa_journal.specs.declared.bank.BankFault.TheVariants as banks
use Rattle.oa_journal.specs.declared.shape.BankFormat.{BankFormat}
use Rattle.oa_store.specs.promise.Stores.{head_place}
use Rattle.oa_store.proofs.reading.look.Goals as goal

pub returns-in_err-library-clause-damaged : goal.returns-in_err-library-clause-damaged
returns-in_err-library-clause-damaged g c at e h =
    let p = err_from_is_err_and c.from_residual.result c.from_residual.ensures.1 in
    let is : c.in_err-library.field-0.0 ≡ banks.Damaged at = cc (rw (p.1, p.2) at e) in
    let bank = c.bank_of-bank.result in
    let stands = c.bank_of-bank.ensures in
    let disk = g.D.Disk.contents c.args.disk.now in
    let damaged = (c.in_err-library.ensures.refused.damaged at (ap (λ (x : BankFault). Err x) is)).1 h in
    let sized = subst (λ (s : BankFormat). IsDamagedBank s bank.head bank.body disk at) stands.shape_is damaged in
    let headed = subst (λ (k : ℕ). IsDamagedBank c.args.shape k bank.body disk at) stands.head_is sized in
    subst (λ (k : ℕ). IsDamagedBank c.args.shape (head_place c.args.chosen) k disk at) stands.body_is headed
