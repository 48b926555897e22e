-- Definitions for contracts and proofs, beside promise/Bank.
use Rattle.std.proofs.Common.{◌≡◌, ℕ, ◌+◌, ◌≤◌, IsTrue, List, Result, IfErr, ◌∙◌}
use Rattle.std.specs.Prelude.{IsErrOf}
use Rattle.oa_disk.specs.After.{AfterCalls}
use Rattle.oa_disk.specs.Moments.{chained}
use Rattle.oa_disk.specs.declared.disk.DeviceFault.{DeviceFault}
use Rattle.oa_disk.specs.declared.disk.DeviceFault.TheVariants.{Read}
use Rattle.oa_disk.specs.declared.disk.Disk.{Ghosts}
use Rattle.oa_journal.specs.declared.bank.BankFault.{BankFault}
use Rattle.oa_journal.specs.declared.bank.BankFault.TheVariants.{Device}
use Rattle.oa_journal.specs.Replies.{IsCausedBankFault}
use Rattle.oa_journal.specs.promise.Bank.{WritesNothing}

-- Besides, the contents do not change; after a failed sync they are not known.
pub record OnlyReads {D : Type 0} (contents : D → List ℕ) (image : D → List ℕ → Type 0) (moment : D → ℕ)
    (image_since : D → ℕ → List ℕ → Type 0) (old new : D) : Type 0 where
  pub contents_stay : contents new ≡ contents old
  pub writes_nothing : WritesNothing image moment image_since old new

-- Reads that advance the clock by at most `moments` and end with the first failure.
pub record AfterReads {D T : Type 0} (g : Ghosts D) (moments : ℕ) (old new : D)
    (result : Result T BankFault) : Type 0 where
  pub reads : IsTrue (g.is_honest new) → OnlyReads g.contents g.image g.moment g.image_since old new
  pub calls : AfterCalls g old new result
  pub device : (fault : DeviceFault) → IsErrOf result (Device fault) → fault ≡ Read
  pub cause : IfErr result (IsCausedBankFault (g.failures_of old) (g.failures_of new))
  pub most : IsTrue (g.is_honest new) → g.moment new ≤ g.moment old + moments

module _ {D : Type 0} (image : D → List ℕ → Type 0) (moment : D → ℕ) (image_since : D → ℕ → List ℕ → Type 0) where
  -- one run after the other
  pub called_on : (old mid new : D) → WritesNothing image moment image_since old mid
      → WritesNothing image moment image_since mid new → WritesNothing image moment image_since old new
  called_on old mid new first second = record {
    images = λ c is. first.images c (second.images c is);
    moments = chained moment image_since old mid new (image old) (image mid)
        (image old) first.moments second.moments (λ c is. is) first.images;
  }

module _ {D : Type 0} (contents : D → List ℕ) (image : D → List ℕ → Type 0) (moment : D → ℕ)
    (image_since : D → ℕ → List ℕ → Type 0) where
  -- one run after the other
  pub reads_on : (old mid new : D) → OnlyReads contents image moment image_since old mid
      → OnlyReads contents image moment image_since mid new → OnlyReads contents image moment image_since old new
  reads_on old mid new first second = record {
    contents_stay = second.contents_stay ∙ first.contents_stay;
    writes_nothing = called_on image moment image_since old mid new first.writes_nothing second.writes_nothing;
  }
