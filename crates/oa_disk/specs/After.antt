-- What calls leave of a disk besides its bytes.
use Rattle.std.specs.Prelude.{◌≡◌, ℕ, ◌+◌, ◌*◌, ◌≤◌, IsTrue, List, Result, OnOk, IfErr, IsErrOf}
use Rattle.oa_disk.specs.declared.disk.DeviceFault.{DeviceFault}
use Rattle.oa_disk.specs.declared.disk.DeviceFault.TheVariants.{Write}
use Rattle.oa_disk.specs.declared.disk.Disk.{Ghosts}
use Rattle.oa_disk.specs.promise.Disk.{CountsFailures, Follows, HasCounted, NothingPending}
use Rattle.oa_disk.specs.Disk.{LeavesStep}

-- At most `most` writes and syncs, which end with the first failure.
pub record AfterWrites {D T : Type 0} (g : Ghosts D) (most : ℕ) (old new : D)
    (result : Result T DeviceFault) : Type 0 where
  pub size : g.size_of new ≡ g.size_of old
  -- it is as honest as it was
  pub honest : g.is_honest new ≡ g.is_honest old
  pub counts : CountsFailures (g.failures_of old) (g.failures_of new) result
  pub fault : IfErr result (λ e. e ≡ Write)
  pub calls : IsTrue (g.is_honest old) → g.moment new ≤ g.moment old + 2 * most

-- At most `most` writes and syncs of a call that may be refused before its first write. The error `device` reports a
-- failed write or sync; no call follows it.
pub record AfterAttempt {D T E : Type 0} (g : Ghosts D) (device : DeviceFault → E) (most : ℕ) (old new : D)
    (result : Result T E) : Type 0 where
  pub size : g.size_of new ≡ g.size_of old
  pub honest : g.is_honest new ≡ g.is_honest old
  pub failures : g.failures_of old ≤ g.failures_of new
  pub once : g.failures_of new ≤ g.failures_of old + 1
  pub unfailed : OnOk result (g.failures_of new ≡ g.failures_of old)
  pub failed : (fault : DeviceFault) → IsErrOf result (device fault)
      → (fault ≡ Write) × HasCounted (g.failures_of old) (g.failures_of new)
  pub calls : IsTrue (g.is_honest old) → g.moment new ≤ g.moment old + 2 * most

-- Any calls, also reads, which end with the first failure. A read may show that the disk has broken its rules.
pub record AfterCalls {D T E : Type 0} (g : Ghosts D) (old new : D) (result : Result T E) : Type 0 where
  pub size : g.size_of new ≡ g.size_of old
  -- a disk that is honest now was honest before
  pub honest : IsTrue (g.is_honest new) → IsTrue (g.is_honest old)
  pub failures : g.failures_of old ≤ g.failures_of new
  pub once : g.failures_of new ≤ g.failures_of old + 1
  -- at `Ok` no call has failed
  pub unfailed : OnOk result (g.failures_of new ≡ g.failures_of old)

-- A crash at any point in time leaves an earlier image after the first step, and after an `Ok` an image after the
-- second.
pub record Leaves {D T E : Type 0} (g : Ghosts D) (meanwhile at_last : List ℕ → List ℕ → Type 0) (old new : D)
    (result : Result T E) : Type 0 where
  pub any_moment : IsTrue (g.is_honest old) → LeavesStep g.moment g.image_since g.image old new meanwhile
  pub done : OnOk result (IsTrue (g.is_honest old) → Follows at_last (g.image old) (g.image new))

-- A disk before its first call: it is honest, no call has failed, and a crash leaves what a read returns.
pub record BeginsHonest {D : Type 0} (g : Ghosts D) (disk : D) : Type 0 where
  pub honest : IsTrue (g.is_honest disk)
  pub failures : g.failures_of disk ≡ 0
  pub settled : NothingPending g.contents g.image disk
