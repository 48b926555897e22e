-- Readers as contracts see them, and what one call does (this project's choice).
use Rattle.std.specs.Prelude.{ℕ, ◌+◌, min, max, Bool, true, false, List, Option, Some}

-- A reader: the bytes that are still to come, if they are known; how often it was called, up to 2^64 - 1; whether it
-- failed; whether it promises that no further call fails or is interrupted.
pub record Input : Type 0 where
  pub left : Option (List ℕ)
  pub calls : ℕ
  pub faulted : Bool
  pub steady : Bool

-- the greatest count, also that of a reader that does not count
abbrev pub most_calls : ℕ
most_calls = 18446744073709551615

-- a count of calls after n more
abbrev pub later : ℕ → ℕ → ℕ
later n calls = max calls (min (calls + n) most_calls)

-- bytes in memory
abbrev pub in_memory : List ℕ → Input
in_memory bytes = record { left = Some bytes; calls = most_calls; faulted = false; steady = true }
