-- The lines of some bytes, apart from how they are read. (This project's choice.)
use Rattle.std.specs.Prelude.{◌≡◌, ◌≢◌, ◌⊎◌, ℕ, ◌-◌, ◌<◌, ◌==◌, if◌then◌else◌, List, [], ◌∷◌, ◌++◌, length, take, All}
use Rattle.std.specs.Prelude.{slice_index_or}
use Rattle.oa_model.specs.promise.Limits.{max_line_characters}

-- no byte is a line feed
abbrev pub HasNoLineFeed : List ℕ → Type 0
HasNoLineFeed bytes = All (λ b. b ≢ 10) bytes

-- without a carriage return at the end
abbrev pub without_return : List ℕ → List ℕ
without_return raw = if slice_index_or raw (length raw - 1) 0 == 13 then take (length raw - 1) raw else raw

-- the line that the first line feed ends, and what follows that
pub record EndedLine (bytes line rest : List ℕ) : Type 0 where
  pub raw : List ℕ
  pub whole : bytes ≡ raw ++ 10 ∷ rest
  pub free : HasNoLineFeed raw
  pub text : line ≡ without_return raw

-- a last line that no line feed ends
pub record Unended (bytes line rest : List ℕ) : Type 0 where
  pub whole : bytes ≡ line
  pub free : HasNoLineFeed line
  pub some : 0 < length line
  pub nothing : rest ≡ []

-- the bytes begin with this line, and the rest follows it
abbrev pub FirstLine : List ℕ → List ℕ → List ℕ → Type 0
FirstLine bytes line rest = EndedLine bytes line rest ⊎ Unended bytes line rest

-- the first line is too long, and nothing after it was read
pub record IsLong (bytes rest : List ℕ) : Type 0 where
  pub line : List ℕ
  pub after : List ℕ
  pub first : FirstLine bytes line after
  pub long : max_line_characters < length line
  pub unread : List ℕ
  pub left : rest ≡ unread ++ after

-- only a part of the first line was read
pub record IsPartOfLine (bytes rest : List ℕ) : Type 0 where
  pub part : List ℕ
  pub whole : bytes ≡ part ++ rest
  pub free : HasNoLineFeed part
