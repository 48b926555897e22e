-- Definitions for contracts and proofs, beside promise/Memory.
use Rattle.std.specs.Prelude.{◌≡◌, ℕ, ◌+◌, ◌<◌, ◌≤◌, ◌↔◌, List, length, Option, Result, IsOk, OnOk, OnErr}
use Rattle.oa_disk.specs.declared.memory.MemoryDisk.{MemoryDisk}
use Rattle.oa_disk.specs.declared.call.DeviceCall.{DeviceCall}
use Rattle.oa_disk.specs.promise.Disk.{DiskState}
use Rattle.oa_disk.specs.History.{with_call}
use Rattle.oa_disk.specs.History as known
use Rattle.oa_disk.specs.CallLog.{IsEmpty}
use Rattle.oa_disk.specs.promise.Memory.{memory_history}

-- the contents at this point in time, with the pending ranges
abbrev pub memory_state_at : MemoryDisk → ℕ → Option DiskState
memory_state_at disk moment = known.state_at (memory_history disk) moment

-- what a crash at some point in time from t on might have left
abbrev pub memory_image_since : MemoryDisk → ℕ → List ℕ → Type 0
memory_image_since disk t = known.image_since_of (memory_history disk) t

-- The call is executed exactly if the log has space for it and for the bytes that it writes. Then it is the last one
-- in the log; otherwise the log does not change, and neither do the contents.
pub record IsRecorded {E : Type 0} (call : DeviceCall) (bytes : List ℕ) (old new : MemoryDisk)
    (result : Result (Unit {0}) E) : Type 0 where
  pub serves : IsOk result ↔ ((length old.ledger.calls.items < old.ledger.most_calls)
      × (length old.ledger.written.items + length bytes ≤ old.ledger.most_bytes))
  pub recorded : OnOk result (memory_history new ≡ with_call (memory_history old) call bytes)
  pub refused : OnErr result (memory_history new ≡ memory_history old)
  pub calls_room : new.ledger.most_calls ≡ old.ledger.most_calls
  pub bytes_room : new.ledger.most_bytes ≡ old.ledger.most_bytes

-- no call was made, and there is space for this many calls and written bytes
abbrev pub IsFresh : ℕ → ℕ → MemoryDisk → Type 0
IsFresh calls bytes disk = IsEmpty calls bytes disk.ledger
