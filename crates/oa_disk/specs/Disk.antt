-- Definitions for contracts and proofs, beside promise/Disk.
use Rattle.std.specs.Prelude.{◌≡◌, ℕ, ◌+◌, ◌<◌, ◌≤◌, Bool, IsTrue, List, length, slice_index, Result, OnErr, OnOk}
use Rattle.oa_disk.specs.promise.Disk.{CrashInvariant}

-- the disk has these bytes from this place on
pub record HasBytesAt (disk : List ℕ) (at : ℕ) (bytes : List ℕ) : Type 0 where
  pub within : at + length bytes ≤ length disk
  pub each : (i : ℕ) → i < length bytes → slice_index disk (at + i) ≡ slice_index bytes i

-- each old image after a step is a new image
abbrev pub Reaches : (List ℕ → List ℕ → Type 0) → (List ℕ → Type 0) → (List ℕ → Type 0) → Type 0
Reaches step old new = (d c : List ℕ) → old d → step d c → new c

-- contents and images are as they were
pub record Stays (old new : List ℕ) (before after : List ℕ → Type 0) : Type 0 where
  pub contents : new ≡ old
  pub images : (c : List ℕ) → after c → before c
  pub stay : (c : List ℕ) → before c → after c

-- A crash at any point in time since old leaves an image of old after a step.
abbrev pub LeavesStep : {D : Type 0} → (D → ℕ) → (D → ℕ → List ℕ → Type 0) → (D → List ℕ → Type 0) → D → D
    → (List ℕ → List ℕ → Type 0) → Type 0
LeavesStep moment image_since image old new step =
    CrashInvariant moment image_since old new (λ c. (d : List ℕ) × image old d × step d c)

-- A read of these bytes. The disk is honest after it only if it was before. After a successful read of the contents
-- it still is; a failed read does not change whether it is.
pub record ReadsHonestly {T E : Type 0} (contents : List ℕ) (at : ℕ) (bytes : List ℕ) (was is : Bool)
    (result : Result T E) : Type 0 where
  pub before : IsTrue is → IsTrue was
  pub kept : OnOk result (IsTrue was → HasBytesAt contents at bytes → IsTrue is)
  pub same : OnErr result (is ≡ was)
