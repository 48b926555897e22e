-- Names compared without regard to case: only A to Z are folded (this project's choice).
use Rattle.std.specs.Prelude.{ℕ, ◌+◌, ◌&&◌, nat_le, if◌then◌else◌, List, map}

-- The character in lower case: A to Z have the codes 65 to 90, and a to z the codes 32 above.
abbrev pub folded : ℕ → ℕ
folded c = if nat_le 65 c && nat_le c 90 then c + 32 else c

-- The name in lower case.
abbrev pub folded_name : List ℕ → List ℕ
folded_name name = map folded name
