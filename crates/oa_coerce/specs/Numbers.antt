-- Definitions for contracts and proofs, beside promise/Numbers.
use Rattle.std.specs.Prelude.{◌≡◌, ◌≤◌, ◌*◌, ◌%◌, ◌^◌, ℕ, ℤ, pos, ◌*ℤ◌, ◌-ℤ◌, unsigned_abs}
use Rattle.std.specs.Int.{abs_diff}
use Rattle.oa_coerce.specs.declared.number.Number.{Number}

-- The distance between n units of 1 / 10^places and a number, in units of 1 / 10^(scale + places).
abbrev pub distance : Number → ℕ → ℤ → ℕ
distance x places n = unsigned_abs (n *ℤ pos (10 ^ x.scale) -ℤ x.count *ℤ pos (10 ^ places))

-- n is the nearest count of units of 1 / 10^places: it is off by at most half a unit, and even if it is off by exactly
-- half a unit.
pub record IsNearest (x : Number) (places : ℕ) (n : ℤ) : Type 0 where
  pub near : 2 * distance x places n ≤ 10 ^ x.scale
  pub even : 2 * distance x places n ≡ 10 ^ x.scale → unsigned_abs n % 2 ≡ 0

-- As `IsNearest`, for whole / unit, without signs.
pub record IsNearestWhole (whole unit n : ℕ) : Type 0 where
  pub near : 2 * abs_diff (n * unit) whole ≤ unit
  pub even : 2 * abs_diff (n * unit) whole ≡ unit → n % 2 ≡ 0
