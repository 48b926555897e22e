-- Definitions for contracts and proofs, beside promise/Disk.
use Rattle.std.specs.Prelude.{◌≡◌, ◌⊎◌, ℕ, ◌+◌, ◌≤◌, Bool, bytes_eq, List, [], ◌∷◌, length, take, drop, slice_get, Some}
use Rattle.oa_disk.specs.declared.call.DeviceCall.{DeviceCall}
use Rattle.oa_disk.specs.declared.call.DeviceCall.TheVariants.{Read, Write, Sync}
use Rattle.oa_disk.specs.promise.Disk.{DiskState, IsImage, count_of, after_call}

abbrev pub during_call : DiskState → DeviceCall → DiskState
during_call state Read = state
during_call state (Write at count) = record { contents = state.contents; pending = (at, count) ∷ state.pending }
during_call state Sync = state

-- two states for each call: within it and after it
abbrev pub states : DiskState → List DeviceCall → List ℕ → List DiskState
states state [] bytes = []
states state (call ∷ calls) bytes =
    during_call state call ∷ after_call state call (take (count_of call) bytes)
    ∷ states (after_call state call (take (count_of call) bytes)) calls (drop (count_of call) bytes)

-- each write lies inside the disk
abbrev pub AllInside : ℕ → List DeviceCall → Type 0
AllInside size calls = (k at count : ℕ) → slice_get calls k ≡ Some (Write at count) → at + count ≤ size

abbrev pub IsImageOfSome : List DiskState → List ℕ → Type 0
IsImageOfSome [] image = ⊥
IsImageOfSome (state ∷ rest) image = IsImage state image ⊎ IsImageOfSome rest image

-- the disk has these bytes there
unfoldable pub agrees : List ℕ → ℕ → List ℕ → Bool
agrees disk at bytes = bytes_eq (take (length bytes) (drop at disk)) bytes
