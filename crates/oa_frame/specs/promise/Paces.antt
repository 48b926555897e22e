-- How often a reader was called for one record. (This project's choice.)
use Rattle.std.specs.Prelude.{◌≡◌, ◌⊎◌, ℕ, Bool, true, false}
use Rattle.oa_model.specs.promise.Limits.{max_read_calls}

-- a read fault has a cause: the reader failed, or was called as often as allowed; without a fault the reader did not
-- fail
abbrev pub HasCause : Bool → ℕ → Bool → Type 0
HasCause true tries faulted = (faulted ≡ true) ⊎ (tries ≡ max_read_calls)
HasCause false tries faulted = faulted ≡ false
