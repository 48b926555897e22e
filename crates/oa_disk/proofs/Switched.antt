-- What stays where bytes and their switch are written.
use Rattle.std.proofs.Common.{◌≡◌, ◌⊎◌, ℕ, ◌+◌, ◌<◌, ◌≤◌, List, length, get_or, ◌∙◌, arith, ⊎_elim}
use Rattle.oa_disk.specs.Disk.{HasBytesAt}
use Rattle.oa_disk.specs.promise.Disk.{Torn}
use Rattle.oa_disk.specs.Switch.{IsSwitching}
use Rattle.oa_disk.proofs.Ranges.{Torn_trans, Torn_within, Holds_above, Holds_below}

-- The switch stands outside the bytes: they stay.
pub switching_holds : (at : ℕ) (bytes : List ℕ) (switch : ℕ) (old new : List ℕ) → (switch < at) ⊎ (at + length bytes ≤ switch)
    → IsSwitching at bytes switch old new → HasBytesAt new at bytes
switching_holds at bytes switch old new apart is = ⊎_elim
    (λ lt. Holds_above switch 1 at bytes is.mid new (omega arith) is.switched is.whole)
    (λ le. Holds_below switch 1 at bytes is.mid new le is.switched is.whole) apart

-- all other bytes stay
pub switching_same : (at : ℕ) (bytes : List ℕ) (switch : ℕ) (old new : List ℕ) → IsSwitching at bytes switch old new
    → (i : ℕ) → (i < at) ⊎ (at + length bytes ≤ i) → (i < switch) ⊎ (switch < i) → get_or new i 0 ≡ get_or old i 0
switching_same at bytes switch old new is i out other =
    ⊎_elim (is.switched.below i) (λ lt. is.switched.above i (omega arith)) other ∙ ⊎_elim (is.written.below i) (is.written.above i) out

-- within a range that has both
pub switching_torn : (at : ℕ) (bytes : List ℕ) (switch to n : ℕ) (old new : List ℕ) → to ≤ at → at + length bytes ≤ to + n → to ≤ switch
    → switch < to + n
    → IsSwitching at bytes switch old new → Torn to n old new
switching_torn at bytes switch to n old new low high from below is =
    Torn_trans to n old is.mid new (Torn_within at (length bytes) to n old is.mid low high is.written)
    (Torn_within switch 1 to n is.mid new from (omega arith) is.switched)
