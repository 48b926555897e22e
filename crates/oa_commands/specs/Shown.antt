-- Names as they appear on standard error. (This project's choice.)
use Rattle.std.specs.Prelude.{ℕ, List, if◌then◌else◌}
use Rattle.std.specs.Char.{encode_utf8, is_control}
use Rattle.std.specs.Char.Escape.{escape_unicode}
use Rattle.std.specs.List.{flat_map}
use Rattle.std.specs.Str.{chars}

-- the bytes of a character: `\u{a}` and the like for a control character
abbrev pub shown_character : ℕ → List ℕ
shown_character c = if is_control c then flat_map encode_utf8 (escape_unicode c) else encode_utf8 c

-- the bytes of a name
abbrev pub shown_name : List ℕ → List ℕ
shown_name name = flat_map shown_character (chars name)
