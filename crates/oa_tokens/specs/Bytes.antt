-- Definitions for contracts and proofs, beside promise/Bytes.
use Rattle.std.specs.Prelude.{ℕ, ◌≤◌, Option, Some, None}

-- The number is at most the length.
abbrev pub EndsInside : Option ℕ → ℕ → Type 0
EndsInside None len = Unit {0}
EndsInside (Some n) len = n ≤ len
