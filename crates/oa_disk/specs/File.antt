-- The members of the trait for a FileDisk.
use Rattle.std.specs.Prelude.{◌≡◌, ◌-◌, ◌++◌, ℕ, IsTrue}
use Rattle.oa_disk.specs.promise.Disk.{NothingPending, zeros}
use Rattle.oa_disk.specs.declared.disk.Disk.{Ghosts}
use Rattle.oa_disk.specs.declared.file.FileDisk.{FileDisk}
use Rattle.oa_disk.specs.declared.record.Record.{Record}
use Rattle.oa_disk.specs.Record.{beginning}

abbrev pub file_size : FileDisk → ℕ
file_size disk = disk.size

abbrev pub failures_of : FileDisk → ℕ
failures_of disk = disk.failures

-- its log: the calls with their results
abbrev pub log_of : FileDisk → Record
log_of disk = disk.history

-- no call was made, and the log begins with this byte at each place
pub record HasMetNoCall (held : ℕ → ℕ) (disk : FileDisk) : Type 0 where
  pub record_is : disk.history ≡ beginning held disk.size
  pub failures : disk.failures ≡ 0

-- no call was made, and the log begins with `size` zeros
pub record IsZeros (size : ℕ) (disk : FileDisk) : Type 0 where
  pub bytes : disk.size ≡ size
  pub zeros : HasMetNoCall (λ _. 0) disk

-- A disk before its first call, made of another disk. It is as honest, and no call of it has failed. If the other
-- disk is honest and no call of it had failed, a crash leaves what a read returns: the other disk's contents,
-- followed by zeros up to `size` bytes.
pub record GoesOnFrom {D : Type 0} (g : Ghosts D) (size : ℕ) (old new : D) : Type 0 where
  pub honest : g.is_honest new ≡ g.is_honest old
  pub failures : g.failures_of new ≡ 0
  pub settled : IsTrue (g.is_honest old) → g.failures_of old ≡ 0 → NothingPending g.contents g.image new
  pub holds : IsTrue (g.is_honest old) → g.failures_of old ≡ 0
      → g.contents new ≡ g.contents old ++ zeros (size - g.size_of old)
