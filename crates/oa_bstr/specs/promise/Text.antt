-- A text as a caller sees it: `None` is the null BSTR, `Some bytes` a text of these bytes (MS-OAUT section 2.2.23,
-- BSTR). Null and the empty text are different values.
use Rattle.std.specs.Prelude.{ℕ, List, [], Option, Some, None}
use Rattle.std.specs.Option.{option_cmp}
use Rattle.std.specs.Ordering.{nat_cmp}
use Rattle.std.specs.declared.cmp.Ordering.{Ordering}
use Rattle.std.specs.Cmp.Lexicographic.{slice_cmp}

-- The bytes of the text; none for null.
abbrev pub bytes_of : Option (List ℕ) → List ℕ
bytes_of None = []
bytes_of (Some bytes) = bytes

-- Null first, then lexicographic order of the bytes (this project's choice).
abbrev pub text_cmp : Option (List ℕ) → Option (List ℕ) → Ordering
text_cmp = option_cmp (slice_cmp nat_cmp)
