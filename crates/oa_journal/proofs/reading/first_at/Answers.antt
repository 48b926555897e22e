use Rattle.std.proofs.Common.{inl, inr, ◌≡◌, ◌∙◌, ◌+◌, List, ℕ, refl, ap, subst, Err, arith}
use Rattle.std.proofs.lemmas.Result.{err_from_is_err_and}
use Rattle.oa_journal.specs.declared.bank.BankFault.{BankFault}
use Rattle.oa_journal.specs.declared.bank.BankFault.TheVariants as banks
use Rattle.oa_journal.specs.promise.Bank.{from_place}
use Rattle.oa_journal.specs.Snapshots.{HasNoImage}
use Rattle.oa_journal.proofs.Banks.{image_long, table_numbered}
use Rattle.oa_journal.proofs.Lockless.{image_unlocked}
use Rattle.oa_journal.proofs.Opened.{no_snapshot}
use Rattle.oa_journal.proofs.Stretches.{fewer_stretches}
use Rattle.oa_journal.proofs.reading.first_at.Goals as goal

pub returns-in_err-told-clause-damaged : goal.returns-in_err-told-clause-damaged
returns-in_err-told-clause-damaged g c at e h =
    let p = err_from_is_err_and c.from_residual.result c.from_residual.ensures.1 in
    let is : c.in_err-told.field-0.0 ≡ banks.Damaged at = cc (rw (p.1, p.2) at e) in
    let damaged = c.in_err-told.ensures.damaged at (ap (λ (x : BankFault). Err x) is) in inl (damaged.0, damaged.1 h)

pub returns-in_err-first-clause-damaged : goal.returns-in_err-first-clause-damaged
returns-in_err-first-clause-damaged g c at e h =
    let p = err_from_is_err_and c.from_residual-in_err-first.result c.from_residual-in_err-first.ensures.1 in
    let is : c.in_err-first.field-0.0 ≡ banks.Damaged at = cc (rw (p.1, p.2) at e) in
    let damaged = c.in_err-first.ensures.damaged at (ap (λ (x : BankFault). Err x) is) in
    let before = c.read_snapshot.ensures.after.calls.honest h in
    let disk = g.D.Disk.contents c.args.disk.now in
    let l = c.in_ok-told.told.library in
    let s = c.in_ok-told.told.snapshot in
    let place = ap (λ (k : ℕ). c.args.body + k) c.from.ensures in
    let image = subst (λ (k : ℕ). HasNoImage (g.D.Disk.contents c.head_of.new.disk) k s) place (damaged.1 h) in
    let stays = subst (λ (d : List ℕ). HasNoImage d (c.args.body + l) s) (c.head_of.ensures.after.reads before).contents_stay image in
    inr (
      l,
      damaged.0 ∙ place,
      inl (l, s, c.in_ok-told.ensures.found before, refl, no_snapshot c.args.shape (from_place c.args.head disk) c.args.body disk l s stays),
    )

pub returns-clause-stored : goal.returns-clause-stored
returns-clause-stored g c = record {
  numbered = table_numbered c.in_ok-first.first c.in_ok-first.ensures.found.is;
  unlocked = image_unlocked c.in_ok-first.first c.in_ok-first.ensures.found.is;
}

pub returns-clause-calls : goal.returns-clause-calls
returns-clause-calls g c h =
    let found = c.in_ok-first.ensures.found in
    let s = c.in_ok-told.told.snapshot in
    let few = fewer_stretches s (omega (arith, found.long, image_long c.in_ok-first.first)) in
    omega (arith, c.head_of.ensures.after.most (c.read_snapshot.ensures.after.calls.honest h), c.read_snapshot.ensures.after.most h, few)
