-- Definitions for contracts and proofs, beside promise/Groups.
use Rattle.std.specs.Prelude.{ℕ, suc, nat_le, if◌then◌else◌, List, [], ◌∷◌, drop}

-- how many of these points in time, which rise, are not later than this one
abbrev pub by_then : ℕ → List ℕ → ℕ
by_then moment [] = 0
by_then moment (m ∷ moments) = if nat_le m moment then suc (by_then moment moments) else 0

-- how many groups of a session were answered by a point in time; the first number of the session is its start
abbrev pub answered_by : ℕ → List ℕ → ℕ
answered_by moment moments = by_then moment (drop 1 moments)
