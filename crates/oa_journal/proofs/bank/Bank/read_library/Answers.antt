use Rattle.std.proofs.Common.{◌≡◌, rules}
use Rattle.oa_journal.specs.declared.bank.BankFault.TheVariants as banks
use Rattle.oa_journal.proofs.bank.Bank.read_library.Goals as goal

pub returns-in-Err-clause-refused : goal.returns-in-Err-clause-refused
returns-in-Err-clause-refused g c = record {
  damaged = λ at e.
      let is : c.in-Err.fault ≡ banks.Damaged at = cc in
      (c.stop_after.ensures.same at is, (c.in-Err.ensures.damaged at e).1);
  memory = search rules;
  device = search rules;
  cause = search rules;
}
