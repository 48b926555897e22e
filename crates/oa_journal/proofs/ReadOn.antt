-- Reads, one run behind the other.
use Rattle.std.proofs.Common.{◌≡◌, ℕ, ◌+◌, ◌≤◌, IsTrue, true, Result, Ok, Err, OnOk, IfErr, ap, ◌∙◌, subst, arith}
use Rattle.oa_disk.specs.declared.disk.Disk.{Ghosts}
use Rattle.oa_journal.specs.declared.bank.Bank.{Bank}
use Rattle.oa_journal.specs.declared.bank.BankFault.{BankFault}
use Rattle.oa_journal.specs.declared.bank.BankFault.TheVariants.{Damaged, Device, Memory}
use Rattle.oa_journal.specs.Append.{IsAt}
use Rattle.oa_journal.specs.BankCalls.{RefusesBank}
use Rattle.oa_journal.specs.Reads.{AfterReads, reads_on}
use Rattle.oa_journal.specs.Replies.{IsCausedBankFault}

module _ {D : Type 0} (g : Ghosts D) {old : D} where
  -- the first has ended well
  pub reads_then : {mid new : D} {S T : Type 0} {x : S} {result : Result T BankFault} (m n k : ℕ)
      → AfterReads g m old mid (Ok x) → AfterReads g n mid new result → m + n ≤ k → AfterReads g k old new result
  reads_then {mid} {new} {S} {T} {x} {result} m n k one two le = record {
    reads = λ h. reads_on g.contents g.image g.moment g.image_since old mid new (one.reads (two.calls.honest h)) (two.reads h);
    calls = record {
      size = two.calls.size ∙ one.calls.size;
      honest = λ h. one.calls.honest (two.calls.honest h);
      failures = omega (arith, one.calls.unfailed, two.calls.failures);
      once = omega (arith, one.calls.unfailed, two.calls.once);
      unfailed = subst (λ (n : ℕ). OnOk result (g.failures_of new ≡ n)) one.calls.unfailed two.calls.unfailed;
    };
    device = two.device;
    cause = subst (λ (n : ℕ). IfErr result (IsCausedBankFault n (g.failures_of new))) one.calls.unfailed two.cause;
    most = λ h. omega (arith, one.most (two.calls.honest h), two.most h, le);
  }

  -- what they answer does not count
  pub reads_ok : {new : D} {S T : Type 0} {x : S} {y : T} {n : ℕ} → AfterReads g n old new (Ok x)
      → AfterReads {T = T} g n old new (Ok y)
  reads_ok all = record {
    reads = all.reads;
    calls = record {
      size = all.calls.size;
      honest = all.calls.honest;
      failures = all.calls.failures;
      once = all.calls.once;
      unfailed = all.calls.unfailed;
    };
    device = λ fault is. absurd cc;
    cause = tt;
    most = all.most;
  }

  -- a bank that was not read is as it was before the run, whose damage follows of that of the last call
  pub refused_then : {mid new : D} {S T : Type 0} {before same after : Bank} (damage all : ℕ → Type 0) (fault : BankFault) → same ≡ before
      → g.failures_of mid ≡ g.failures_of old → ((at : ℕ) → IsTrue (g.is_honest new) → fault ≡ Damaged at → damage at → all at)
      → RefusesBank {T = S} g damage same after mid new (Err fault) → RefusesBank {T = T} g all before after old new (Err fault)
  refused_then {mid} {new} {S} {T} {before} {same} {after} damage all fault is unfailed follows refused = record {
    damaged = λ at e.
        let told : fault ≡ Damaged at = cc in
        let one = refused.damaged at (ap (λ (x : BankFault). Err x) told) in
        (one.0 ∙ is, λ h. follows at h told (one.1 h));
    memory = λ e. let told : fault ≡ Memory = cc in refused.memory (ap (λ (x : BankFault). Err x) told) ∙ is;
    device = λ why e.
        let told : fault ≡ Device why = cc in
        let one = refused.device why (ap (λ (x : BankFault). Err x) told) in
        (subst (λ (b : Bank). IsAt b.shape b.head b.body b.gate true after) is one.0, one.1);
    cause = subst (λ (n : ℕ). IsCausedBankFault n (g.failures_of new) fault) unfailed refused.cause;
  }
