-- Lines of a text, as they are shown for the place of a fault. A line ends at CR, LF or both. (This project's
-- choice.)
use Rattle.std.specs.Prelude.{◌≡◌, ◌+◌, ◌-◌, ◌^◌, ◌++◌, ◌==◌, ◌||◌, min, not, ℕ, Bool, true, false, List, [], ◌∷◌}
use Rattle.std.specs.Prelude.{if◌then◌else◌, string_bytes}
use Rattle.std.specs.Char.{encode_utf8, is_control}
use Rattle.std.specs.Fmt.{decimal}
use Rattle.oa_commands.specs.Shown.{shown_name}
use Rattle.oa_commands.specs.declared.place.Line.{Line}

-- LF or CR
abbrev pub is_end : ℕ → Bool
is_end c = (c == 10) || (c == 13)

-- a character of a line: `?` for a control character other than a tab, since it would move the caret
abbrev pub shown_in_line : ℕ → ℕ
shown_in_line c = if c == 9 then c else if is_control c then 63 else c

-- the character below it, before the caret
abbrev pub blank_below : ℕ → ℕ
blank_below c = if c == 9 then 9 else 32

-- numbers stop at the greatest u64
abbrev pub counted_on : ℕ → ℕ
counted_on n = min (n + 1) (2 ^ 64 - 1)

-- A line begins: the next one, unless this is the LF after a CR.
pub record BeginsLine (c : ℕ) (old new : Line) : Type 0 where
  pub number : new.number ≡ (if (c == 13) || not (old.last == 13) then counted_on old.number else old.number)
  pub column : new.column ≡ 1
  pub shown : string_bytes new.shown ≡ []
  pub blank : string_bytes new.blank ≡ []

-- The line continues with a character, which may be before the place.
pub record ContinuesLine (c : ℕ) (is_before : Bool) (old new : Line) : Type 0 where
  pub number : new.number ≡ old.number
  pub column : new.column ≡ (if is_before then counted_on old.column else old.column)
  pub shown : string_bytes new.shown ≡ string_bytes old.shown ++ encode_utf8 (shown_in_line c)
  pub blank : string_bytes new.blank ≡ string_bytes old.blank ++ (if is_before then encode_utf8 (blank_below c) else [])

-- one more character of a text
pub record ReadsCharacter (c : ℕ) (is_before : Bool) (old new : Line) : Type 0 where
  pub ends : is_end c ≡ true → BeginsLine c old new
  pub goes_on : is_end c ≡ false → ContinuesLine c is_before old new
  pub last : new.last ≡ c

-- the file, the line and the column, each followed by a colon
abbrev pub place_head : List ℕ → ℕ → ℕ → List ℕ
place_head file line column = shown_name file ++ (58 ∷ (decimal line ++ (58 ∷ (decimal column ++ (58 ∷ 32 ∷ [])))))
