-- Bytes that become valid by one byte, the switch: a batch of the journal with its gate, a bank with the selector.
-- This project's choice.
use Rattle.std.specs.Prelude.{◌≡◌, ◌⊎◌, ℕ, List, length, get_or}
use Rattle.oa_disk.specs.Disk.{HasBytesAt}
use Rattle.oa_disk.specs.promise.Disk.{Torn}

-- the bytes were written whole, and then the switch, which may hold any byte
pub record IsSwitching (at : ℕ) (bytes : List ℕ) (switch : ℕ) (old new : List ℕ) : Type 0 where
  pub mid : List ℕ
  pub written : Torn at (length bytes) old mid
  pub whole : HasBytesAt mid at bytes
  pub switched : Torn switch 1 mid new

-- any bytes in the range, or these bytes and any switch
abbrev pub MaySwitch : ℕ → List ℕ → ℕ → List ℕ → List ℕ → Type 0
MaySwitch at bytes switch old new = Torn at (length bytes) old new ⊎ IsSwitching at bytes switch old new

-- these bytes, and the switch has this value
abbrev pub HasSwitched : ℕ → List ℕ → ℕ → ℕ → List ℕ → List ℕ → Type 0
HasSwitched at bytes switch value old new = IsSwitching at bytes switch old new × (get_or new switch 0 ≡ value)
