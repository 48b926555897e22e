use Rattle.std.proofs.Common.{List, ℕ, Err, ap, inl, refl, subst}
use Rattle.std.proofs.lemmas.Result.{err_from_is_err_and}
use Rattle.oa_journal.specs.declared.bank.Bank.{Bank}
use Rattle.oa_journal.specs.declared.bank.BankFault.{BankFault}
use Rattle.oa_journal.specs.Damages.{IsDamagedBank}
use Rattle.oa_journal.proofs.ReadOn.{refused_then}
use Rattle.oa_journal.proofs.bank.Bank.read_all.Goals as goal

pub returns-in_err-library-clause-refused : goal.returns-in_err-library-clause-refused
returns-in_err-library-clause-refused g c =
    let p = err_from_is_err_and c.from_residual.result c.from_residual.ensures.1 in
    let fault = c.in_err-library.field-0.0 in
    rw (p.1, p.2) (refused_then g.D.Disk _ _ fault refl refl (λ at h is none. inl (c.in_err-library.ensures.head at (ap (λ (x : BankFault). Err x) is), none))
    c.in_err-library.ensures.refused)

pub returns-in_err-table-clause-refused : goal.returns-in_err-table-clause-refused
returns-in_err-table-clause-refused g c =
    let p = err_from_is_err_and c.from_residual-in_err-table.result c.from_residual-in_err-table.ensures.1 in
    let fault = c.in_err-table.field-0.0 in
    let self = c.args.self.now in
    let mid = g.D.Disk.contents c.read_library.new.disk in
    rw (p.1, p.2) (refused_then g.D.Disk _ _ fault c.in_ok-library.ensures.bank c.in_ok-library.ensures.after.unfailed (λ at h is damaged.
    let stay = (c.read_library.ensures.reads (c.read_table.ensures.after.honest h)).contents_stay in
    let own = subst (λ (b : Bank). IsDamagedBank b.shape b.head b.body mid at) c.in_ok-library.ensures.bank damaged in
    subst (λ (d : List ℕ). IsDamagedBank self.shape self.head self.body d at) stay own) c.in_err-table.ensures.refused)
