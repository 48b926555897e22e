-- The members of the trait for a MemoryDisk.
use Rattle.std.specs.Prelude.{ℕ, List}
use Rattle.oa_disk.specs.declared.memory.MemoryDisk.{MemoryDisk}
use Rattle.oa_disk.specs.declared.crash.Tear.{Tear}
use Rattle.oa_disk.specs.promise.Disk.{DiskHistory, IsTorn}
use Rattle.oa_disk.specs.promise.Disk as known
use Rattle.oa_disk.specs.promise.CallLog.{laid, history}

-- its first contents, and the calls since then
abbrev pub memory_history : MemoryDisk → DiskHistory
memory_history disk = history disk.first disk.ledger

abbrev pub memory_contents : MemoryDisk → List ℕ
memory_contents disk = known.contents_of (memory_history disk)

-- the last point in time
abbrev pub moments_of : MemoryDisk → ℕ
moments_of disk = known.moment_of (memory_history disk)

-- what a crash may leave now
abbrev pub memory_image : MemoryDisk → List ℕ → Type 0
memory_image disk = known.image_of (memory_history disk)

-- what a crash at this point in time leaves under this tear
abbrev pub IsTornAt : MemoryDisk → Tear → ℕ → List ℕ → Type 0
IsTornAt disk tear moment image =
    IsTorn tear (laid disk.first) disk.ledger.calls.items disk.ledger.written.items moment image
