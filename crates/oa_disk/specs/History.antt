-- Definitions for contracts and proofs, beside promise/Disk.
use Rattle.std.specs.Prelude.{◌≡◌, ℕ, ◌+◌, ◌≤◌, List, [], ◌∷◌, ◌++◌, length, drop, Option, slice_get}
use Rattle.oa_disk.specs.promise.Disk.{AllBytes, DiskState, synced, count_all, DiskHistory}
use Rattle.oa_disk.specs.declared.call.DeviceCall.{DeviceCall}
use Rattle.oa_disk.specs.declared.call.DeviceCall.TheVariants.{Read, Write, Sync}
use Rattle.oa_disk.specs.Replay.{IsImageOfSome, states, AllInside}

-- the contents at each point in time, with the pending ranges
abbrev pub states_of : DiskHistory → List DiskState
states_of h = synced h.first ∷ states (synced h.first) h.calls h.written

abbrev pub state_at : DiskHistory → ℕ → Option DiskState
state_at h moment = slice_get (states_of h) moment

-- what a crash at some point in time from t on might have left
abbrev pub image_since_of : DiskHistory → ℕ → List ℕ → Type 0
image_since_of h t = IsImageOfSome (drop t (states_of h))

-- the history with one more call, and the bytes that it wrote
abbrev pub with_call : DiskHistory → DeviceCall → List ℕ → DiskHistory
with_call h call bytes = record { first = h.first; calls = h.calls ++ call ∷ []; written = h.written ++ bytes }

-- the history of a disk of `size` bytes: each write lies inside it, and the bytes of each are given
pub record IsHistory (size : ℕ) (h : DiskHistory) : Type 0 where
  pub bytes_of_first : AllBytes h.first
  pub size_of_first : length h.first ≡ size
  pub bytes_of_all : AllBytes h.written
  pub count_of_all : count_all h.calls ≡ length h.written
  pub inside : AllInside size h.calls

-- a call of such a disk, with the bytes that it wrote
abbrev pub FitsDisk : ℕ → DeviceCall → List ℕ → Type 0
FitsDisk size Read bytes = bytes ≡ []
FitsDisk size (Write at count) bytes = (count ≡ length bytes) × (at + count ≤ size) × AllBytes bytes
FitsDisk size Sync bytes = bytes ≡ []
