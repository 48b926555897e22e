-- Definitions for contracts and proofs, beside promise/Words.
use Rattle.std.specs.Prelude.{◌≡◌, ℕ, ◌<◌, nat_lt, nat_le, if◌then◌else◌, List, length, Option, Some, None}
use Rattle.oa_model.specs.promise.Limits.{max_name_characters}
use Rattle.oa_idl.specs.declared.stop.TreeLimit.{TreeLimit}
use Rattle.oa_idl.specs.declared.stop.TreeLimit.TheVariants as limits
use Rattle.oa_idl.specs.promise.Forms.{Word}
use Rattle.oa_idl.specs.promise.Words.{name_of}

-- ---- names

-- The limit that a name exceeds: it is too long, or it is that of one item too many.
abbrev pub over : TreeLimit → ℕ → ℕ → List ℕ → Option TreeLimit
over l bound count name = if nat_lt max_name_characters (length name) then Some limits.Name
    else if nat_le bound count then Some l else None

-- The limit that a name exceeds by its length only.
abbrev pub too_long : List ℕ → Option TreeLimit
too_long name = over limits.Name 1 0 name

-- No limit.
abbrev pub never_over : {A : Type 0} → A → Option TreeLimit
never_over x = None

-- The name is too long, if the limit is that of names; true for any other limit.
abbrev pub TooLong : TreeLimit → List ℕ → Type 0
TooLong limits.Name name = max_name_characters < length name
TooLong limits.Interfaces name = Unit {0}
TooLong limits.Coclasses name = Unit {0}
TooLong limits.Members name = Unit {0}
TooLong limits.Params name = Unit {0}

-- The word is a name at which the limit can be exceeded.
pub record NamedAt (l : TreeLimit) (w : Word) : Type 0 where
  pub name : List ℕ
  pub is : name_of w ≡ Some name
  pub long : TooLong l name
