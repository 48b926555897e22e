-- Definitions for contracts and proofs, beside promise/Fuse.
use Rattle.std.specs.Prelude.{◌≡◌, ◌↔◌, ℕ, ◌+◌, ◌-◌, ◌^◌, ◌<◌, Bool, List, min, Result, IsErr}
use Rattle.oa_disk.specs.declared.disk.Disk.{Ghosts}
use Rattle.oa_disk.specs.declared.fuse.FuseDisk.{FuseDisk}

-- how many calls it has refused
abbrev pub refused_of : {D : Type 0} → FuseDisk D → ℕ
refused_of f = f.refused

-- the failures of the inner disk and of the fuse, at most the greatest u64
abbrev pub failures_with : {D : Type 0} → (D → ℕ) → FuseDisk D → ℕ
failures_with failures f = min (failures f.disk + f.refused) (2 ^ 64 - 1)

-- One disk agrees with another in every member of the trait.
pub record ShowsAllOf {D E : Type 0} (g : Ghosts D) (h : Ghosts E) (within : D) (disk : E) : Type 0 where
  pub size : h.size_of disk ≡ g.size_of within
  pub failures : h.failures_of disk ≡ g.failures_of within
  pub honest : h.is_honest disk ≡ g.is_honest within
  pub contents : h.contents disk ≡ g.contents within
  pub image : (c : List ℕ) → h.image disk c ↔ g.image within c
  pub moment : h.moment disk ≡ g.moment within
  pub image_since : (t : ℕ) (c : List ℕ) → h.image_since disk t c ↔ g.image_since within t c

-- A call uses one of the calls that are left, and is not refused by the fuse. With none left it fails, and the inner
-- disk does not change.
pub record SpendsFuse {D E : Type 0} (old new : FuseDisk D) (result : Result (Unit {0}) E) : Type 0 where
  pub left : new.calls_left ≡ old.calls_left - 1
  pub passed : 0 < old.calls_left → new.refused ≡ old.refused
  pub blown : old.calls_left ≡ 0 → IsErr result
  pub kept : old.calls_left ≡ 0 → new.disk ≡ old.disk

-- A write or a sync changes neither the size of a disk nor whether it is honest.
pub record KeepsKind {D : Type 0} (size_of : D → ℕ) (is_honest : D → Bool) (old new : D) : Type 0 where
  pub size : size_of new ≡ size_of old
  pub honest : is_honest new ≡ is_honest old
