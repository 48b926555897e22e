-- A disk: what its calls do, and which bytes a crash may leave.
use Rattle.std.specs.Prelude.{◌≡◌, ◌⊎◌, ℕ, ◌+◌, ◌-◌, ◌^◌, ◌<◌, ◌≤◌, List, length, slice_index, Result, IfErr, IsOk}
use Rattle.std.specs.Prelude.{IsErr, [], ◌∷◌, ◌++◌, take, drop, replicate, ◌*◌, ◌/◌, slice_get, Some}
use Rattle.oa_disk.specs.declared.disk.DeviceFault.{DeviceFault}
use Rattle.oa_disk.specs.declared.call.DeviceCall.{DeviceCall}
use Rattle.oa_disk.specs.declared.call.DeviceCall.TheVariants.{Read, Write, Sync}
use Rattle.oa_disk.specs.declared.crash.Tear.{Tear}
use Rattle.oa_disk.specs.declared.crash.Tear.TheVariants.{Lost, Kept, Filled, Cut}

-- What the calls of a disk do to its contents, and what a crash may leave: this project's choice of a model.

-- each is a byte
abbrev pub AllBytes : List ℕ → Type 0
AllBytes numbers = (i : ℕ) → slice_index numbers i < 256

-- any bytes in the n places from `at` on, the same outside
pub record Torn (at n : ℕ) (old new : List ℕ) : Type 0 where
  pub size : length new ≡ length old
  pub below : (i : ℕ) → i < at → slice_index new i ≡ slice_index old i
  pub above : (i : ℕ) → at + n ≤ i → slice_index new i ≡ slice_index old i
  pub bytes : (i : ℕ) → (slice_index new i ≡ slice_index old i) ⊎ (slice_index new i < 256)

-- each new image is an old image after a step
abbrev pub Follows : (List ℕ → List ℕ → Type 0) → (List ℕ → Type 0) → (List ℕ → Type 0) → Type 0
Follows step old new = (c : List ℕ) → new c → (d : List ℕ) × old d × step d c

-- a crash leaves this and nothing else
abbrev pub Only : List ℕ → (List ℕ → Type 0) → Type 0
Only disk images = (c : List ℕ) → images c → c ≡ disk

-- a crash leaves what a read gives
abbrev pub NothingPending : {D : Type 0} → (D → List ℕ) → (D → List ℕ → Type 0) → D → Type 0
NothingPending contents image disk = Only (contents disk) (image disk)

-- an unsynced write of n bytes, whole or in part: no image falls away
pub record WritesUnsynced (at n : ℕ) (old new : List ℕ) (before after : List ℕ → Type 0) : Type 0 where
  pub others : Torn at n old new
  pub images : Follows (Torn at n) before after
  pub stay : (c : List ℕ) → before c → after c

-- the contents are as they were, and all of them on the device
pub record Syncs (old new : List ℕ) (after : List ℕ → Type 0) : Type 0 where
  pub contents : new ≡ old
  pub durable : Only old after

-- The clock after a call: one point in time lies within the call, another after it. A crash since t might have left
-- what it might have left before the call, or what it may leave now.
pub record Elapses (before now : ℕ) (past since : ℕ → List ℕ → Type 0) (image : List ℕ → Type 0) : Type 0 where
  pub later : before ≤ now
  pub soon : now ≤ before + 2
  pub nothing_else : (t : ℕ) (c : List ℕ) → t ≤ before → since t c → past t c ⊎ image c
  pub keeps : (t : ℕ) (c : List ℕ) → t ≤ before → past t c → since t c

-- the clock after a call of a disk
abbrev pub TakesTime : {D : Type 0} → (D → ℕ) → (D → ℕ → List ℕ → Type 0) → (D → List ℕ → Type 0) → D → D → Type 0
TakesTime moment image_since image old new =
    Elapses (moment old) (moment new) (image_since old) (image_since new) (image new)

-- A crash invariant: a crash at any point in time since old leaves an image with P.
pub record CrashInvariant {D : Type 0} (moment : D → ℕ) (image_since : D → ℕ → List ℕ → Type 0) (old new : D)
    (P : List ℕ → Type 0) : Type 0 where
  pub later : moment old ≤ moment new
  pub each : (c : List ℕ) → image_since new (moment old) c → P c
  -- for a run that began earlier
  pub before : (t : ℕ) (c : List ℕ) → t ≤ moment old → image_since new t c → image_since old t c ⊎ P c

-- a failure was counted, unless the count is at its greatest value
abbrev pub HasCounted : ℕ → ℕ → Type 0
HasCounted before now = now < 2 ^ 64 - 1 → before < now

-- One call, or a run of calls that ends with the first failure. A failure counts once, unless the count is at its
-- greatest value; without a failure the count does not change.
pub record CountsFailures {T E : Type 0} (before now : ℕ) (result : Result T E) : Type 0 where
  pub later : before ≤ now
  pub failed : IsErr result → HasCounted before now
  pub once : now ≤ before + 1
  pub none : IsOk result → now ≡ before

-- A failure is of this kind, and is counted.
pub record FailsAs {T : Type 0} (kind : DeviceFault) (before now : ℕ) (result : Result T DeviceFault) : Type 0 where
  pub counts : CountsFailures before now result
  pub fault : IfErr result (λ e. e ≡ kind)

-- What a crash may leave at each point in time, computed from the calls and the bytes that they wrote.

-- what a read returns, and the pending ranges: those that are not surely on the disk
pub record DiskState : Type 0 where
  pub contents : List ℕ
  pub pending : List (ℕ × ℕ)

-- a disk with these bytes written at this place
abbrev pub overwritten : List ℕ → ℕ → List ℕ → List ℕ
overwritten disk at bytes = take at disk ++ (bytes ++ drop (at + length bytes) disk)

-- a place that is in none of the ranges
abbrev pub IsOutside : List (ℕ × ℕ) → ℕ → Type 0
IsOutside [] i = Unit {0}
IsOutside (range ∷ ranges) i = ((i < range.0) ⊎ (range.0 + range.1 ≤ i)) × IsOutside ranges i

-- any bytes in the pending ranges, the contents outside
pub record IsImage (state : DiskState) (image : List ℕ) : Type 0 where
  pub size : length image ≡ length state.contents
  pub outside : (i : ℕ) → IsOutside state.pending i → slice_index image i ≡ slice_index state.contents i
  pub bytes : AllBytes image

-- how many bytes the call wrote
abbrev pub count_of : DeviceCall → ℕ
count_of Read = 0
count_of (Write at count) = count
count_of Sync = 0

abbrev pub after_call : DiskState → DeviceCall → List ℕ → DiskState
after_call state Read bytes = state
after_call state (Write at count) bytes =
    record { contents = overwritten state.contents at bytes; pending = (at, count) ∷ state.pending }
after_call state Sync bytes = record { contents = state.contents; pending = [] }

abbrev pub last_state : DiskState → List DeviceCall → List ℕ → DiskState
last_state state [] bytes = state
last_state state (call ∷ calls) bytes =
    last_state (after_call state call (take (count_of call) bytes)) calls (drop (count_of call) bytes)

-- how many bytes all calls wrote
abbrev pub count_all : List DeviceCall → ℕ
count_all [] = 0
count_all (call ∷ calls) = count_of call + count_all calls

-- nothing is pending
abbrev pub synced : List ℕ → DiskState
synced contents = record { contents = contents; pending = [] }

-- what a read returns after these calls
abbrev pub contents_after : List ℕ → List DeviceCall → List ℕ → List ℕ
contents_after first calls written = (last_state (synced first) calls written).contents

-- this many zeros
unfoldable pub zeros : ℕ → List ℕ
zeros size = replicate size 0

-- A disk as its history: its first contents, and the calls since then. A disk in memory and a file both are such a
-- disk.

-- the first contents, the calls in order, and the bytes of all writes, one after the other
pub record DiskHistory : Type 0 where
  pub first : List ℕ
  pub calls : List DeviceCall
  pub written : List ℕ

abbrev pub disk_state : DiskHistory → DiskState
disk_state h = last_state (synced h.first) h.calls h.written

abbrev pub contents_of : DiskHistory → List ℕ
contents_of h = (disk_state h).contents

-- what a crash may leave now
abbrev pub image_of : DiskHistory → List ℕ → Type 0
image_of h = IsImage (disk_state h)

-- the present point in time: 0 is the start, `2k - 1` lies within call k, and `2k` after it
abbrev pub moment_of : DiskHistory → ℕ
moment_of h = 2 * length h.calls

-- Writes over zeros, later ones on top.

abbrev pub layered : ℕ → List DeviceCall → List ℕ → DiskHistory
layered size calls written = record { first = zeros size; calls = calls; written = written }

-- What each tear leaves of the writes that no sync has brought to the disk: this project's choice.

-- the disk after one write
abbrev pub torn : Tear → List ℕ → ℕ → List ℕ → List ℕ
torn Lost disk at bytes = disk
torn Kept disk at bytes = overwritten disk at bytes
torn (Filled byte) disk at bytes = overwritten disk at (replicate (length bytes) byte)
torn (Cut n) disk at bytes = overwritten disk at (take n bytes)

-- the tear for the writes after one of this many bytes
abbrev pub tear_behind : Tear → ℕ → Tear
tear_behind Lost count = Lost
tear_behind Kept count = Kept
tear_behind (Filled byte) count = Filled byte
tear_behind (Cut n) count = Cut (n - count)

-- the disk after one call
abbrev pub torn_call : Tear → List ℕ → DeviceCall → List ℕ → List ℕ
torn_call tear disk Read bytes = disk
torn_call tear disk (Write at count) bytes = torn tear disk at bytes
torn_call tear disk Sync bytes = disk

-- the disk after these calls, which wrote these bytes
abbrev pub torn_all : Tear → List ℕ → List DeviceCall → List ℕ → List ℕ
torn_all tear disk [] written = disk
torn_all tear disk (call ∷ calls) written =
    torn_all (tear_behind tear (count_of call)) (torn_call tear disk call (take (count_of call) written)) calls
    (drop (count_of call) written)

-- the last sync is the last of the first n calls, or there is none and n is 0
pub record IsLastSync (calls : List DeviceCall) (n : ℕ) : Type 0 where
  pub among : n ≤ length calls
  pub here : (n ≡ 0) ⊎ (slice_get calls (n - 1) ≡ Some Sync)
  pub none_later : (k : ℕ) → n ≤ k → slice_get calls k ≡ Some Sync → ⊥

-- The disk after a crash at this point in time: the state at the last sync that had ended by then, and the torn calls
-- that had begun since.
pub record IsTorn (tear : Tear) (first : List ℕ) (calls : List DeviceCall) (written : List ℕ) (moment : ℕ)
    (image : List ℕ) : Type 0 where
  -- how many calls there were up to that sync
  pub synced : ℕ
  pub last : IsLastSync (take (moment / 2) calls) synced
  pub torn : image ≡ torn_all tear (contents_after first (take synced calls) written)
      (take ((moment + 1) / 2 - synced) (drop synced calls)) (drop (count_all (take synced calls)) written)
